-- Words: the answer and the verdict of a result, on the ledger, follows the ledger, own plan, kept, lent memory.
use Rattle.std.specs.Prelude.{◌≡◌, ℕ, true, List, ◌∷◌, length, Some, None, Ok, Err, Option, Result}
use Rattle.measure.specs.Kinds.{Kind, measure_of}
use Rattle.recursion.specs.Pumps.{planned_speeds, LeastIs, PumpRecursion}
use Rattle.recursion.specs.Staged.{Rising}
use Rattle.ledger.specs.declared.refusal.Refusal.{Refusal}
use Rattle.ledger.specs.AnswerLaws.{AnswerIsLawful}
use Rattle.ledger.specs.Answers.{Answer, refused, answer}
use Rattle.ledger.specs.Ledger.{Ledger, Charges, Call, plan, pump_for, slots_left, charges_of, after, ledger}
use Rattle.ledger.specs.Promise.{Rival, Upheld, Promise}

-- the result of a call as the ledger's answer, where f tells what an accepted call says
abbrev pub answer_of : {X : Type 0} → (X → Answer) → Result X Refusal → Answer
answer_of f (Ok x) = f x
answer_of f (Err r) = refused r

-- the result of a call as a verdict: the refusal, if there is one
abbrev pub verdict_of : {X : Type 0} → Result X Refusal → Option Refusal
verdict_of (Ok x) = None
verdict_of (Err r) = Some r

-- a call c made after the calls h, latest first: the stay then holds m, and a is answered
pub record OnLedger (h : List Call) (c : Call) (m : Ledger) (a : Answer) : Type 0 where
  -- the stay holds the ledger after h and c; the answer is the ledger's after h
  pub same : m ≡ ledger (c ∷ h)
  pub answered : a ≡ answer (ledger h) c
  pub promise : Promise h c

-- a call c on a stay that held the ledger l: the stay then holds m, and a is answered, all as the ledger has it
pub record Follows (l m : Ledger) (c : Call) (a : Answer) : Type 0 where
  -- what the stay holds is what the ledger is after the call; a refusal changes nothing
  pub step : m ≡ after l c
  -- the answer, or the refusal, is the ledger's
  pub answered : a ≡ answer l c
  -- the law of the change and of the answer, which by the two equations are the stay's
  pub lawful : AnswerIsLawful l c
  -- before the call and after it: no open job is overdue, the plan answered next is best, the verdict on the next booking exact
  pub upheld_before : Upheld l
  pub upheld : Upheld m
  -- the promise over every list of calls: if the stay held the ledger after the calls h, it holds the ledger after those and
  -- this one, the answer is that ledger's, and the promise is kept
  pub on_every_history : (h : List Call) → l ≡ ledger h → OnLedger h c m a

-- an accepted plan under its own tariff t and its own measure, of kind q and with its mark: the stay held the ledger l and then
-- holds m, and the measure x was answered
pub record OwnPlan {M : Type 0} (q : Kind M) (t : Charges) (mark : ℕ) (l m : Ledger) (x : M) : Type 0 where
  -- the speeds that then stand, one for each slot left, with the mark of the measure
  pub speeds : List ℕ
  pub stands : m.standing ≡ plan mark speeds
  -- they are the planned speeds of the recursion, whose rule is this; the listed speeds rise, so of level ones the lowest is taken
  pub planned : speeds ≡ planned_speeds q (pump_for l.speeds l.queue t.charge) (slots_left l) l.clock 0
  pub by_the_rule : (n k e : ℕ) → PumpRecursion q (pump_for l.speeds l.queue t.charge) n k e
  pub rises : Rising l.speeds
  -- the measure answered is the least, from the clock on with no work done
  pub least : LeastIs q (pump_for l.speeds l.queue t.charge) (slots_left l) l.clock 0 x
  -- it is that of the speeds' own charges: those of their slots from the clock on, joined in this order, with nought at the end
  pub measure : x ≡ measure_of q (charges_of l t speeds)
  -- run on the ledger they finish every open job in time, and no rival measures less
  pub finishes : Rival l speeds
  pub none_below : (rs : List ℕ) → Rival l rs → q.not_above x (measure_of q (charges_of l t rs)) ≡ true

-- the same of a result: a refusal has no plan
abbrev pub PlansOwn : {M : Type 0} → Kind M → Charges → ℕ → Ledger → Ledger → Result (ℕ × M) Refusal → Type 0
PlansOwn q t mark l m (Ok p) = OwnPlan q t mark l m p.1
PlansOwn q t mark l m (Err r) = Unit {0}

-- the measure that an accepted plan answers is that of these charges
abbrev pub MeasureIs : {M : Type 0} → Kind M → List ℕ → Result (ℕ × M) Refusal → Type 0
MeasureIs q charges (Ok p) = p.1 ≡ measure_of q charges
MeasureIs q charges (Err r) = Unit {0}

-- a value that a refusal leaves as it was
abbrev pub Kept : {X Y : Type 0} → Result Y Refusal → X → X → Type 0
Kept (Ok y) was is = Unit {0}
Kept (Err r) was is = is ≡ was

-- lent memory after a call: as it was if the call is refused, else as long as it was, and what it holds is not fixed
abbrev pub Lent : {X Y : Type 0} → Result Y Refusal → List X → List X → Type 0
Lent (Ok y) was is = length is ≡ length was
Lent (Err r) was is = is ≡ was
