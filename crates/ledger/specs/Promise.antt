-- Words: run on the ledger, finishes in time, rival, best, exact verdict, the promise.
use Rattle.std.specs.Prelude.{◌≡◌, ℕ, ◌-◌, ◌<◌, true, List, [], ◌∷◌, length, take, Some, None, Option}
use Rattle.measure.specs.Orders.{Order}
use Rattle.recursion.specs.Pumps.{Listed}
use Rattle.ledger.specs.declared.job.Job.{Job}
use Rattle.ledger.specs.declared.refusal.Refusal.{Refusal}
use Rattle.ledger.specs.declared.refusal.Refusal.TheVariants.{NotInTime}
use Rattle.ledger.specs.Queue.{Each, Gone}
use Rattle.ledger.specs.Ledger.{Ledger, Charges, Call, booking, slots_left, plan_for, charges_of, booking_rules, refusal, entered, slot_run, ledger}
use Rattle.ledger.specs.Sound.{Sound}
use Rattle.ledger.specs.AnswerLaws.{AnswerIsLawful}

-- the ledger once its next slots have been run, one at each speed of the list, in place of a plan
abbrev pub runs : List ℕ → Ledger → Ledger
runs [] l = l
runs (s ∷ ss) l = runs ss (slot_run s l)

-- speeds finish a job in time: with the slots before its due slot run at them, it is open no more
abbrev pub Finishes : Ledger → List ℕ → Job → Type 0
Finishes l ss j = Gone j.number (runs (take (j.due - l.clock) ss) l).queue

-- a rival: one listed speed for each slot from the clock to the last, which finishes every open job in time
pub record Rival (l : Ledger) (ss : List ℕ) : Type 0 where
  pub each_slot : length ss ≡ slots_left l
  pub listed : Listed l.speeds ss
  pub finishes : Each (Finishes l ss) l.queue

-- speeds are best under a tariff and a measure if they finish every open job in time and no rival measures less
pub record IsBest (l : Ledger) (t : Charges) (o : Order) (ss : List ℕ) : Type 0 where
  pub finishes : Rival l ss
  pub none_below : (rs : List ℕ) → Rival l rs → o.not_above (charges_of l t ss) (charges_of l t rs) ≡ true

-- a verdict on a booking is exact if, where no rule before the last refuses it, it says "not in time" exactly if
-- no speeds finish the job and all open jobs in time, and else takes the job
pub record ExactVerdict (l : Ledger) (j : Job) (verdict : Option Refusal) : Type 0 where
  pub refused_rightly : verdict ≡ Some NotInTime → (ss : List ℕ) → Rival (entered j l) ss → ⊥
  pub taken_rightly : verdict ≡ None → (ss : List ℕ) × Rival (entered j l) ss
  pub refused_if_none : booking_rules l j None ≡ None → ((ss : List ℕ) → Rival (entered j l) ss → ⊥) → verdict ≡ Some NotInTime
  pub taken_if_some : booking_rules l j None ≡ None → (ss : List ℕ) → Rival (entered j l) ss → verdict ≡ None

-- what is promised of a ledger, of how it stands and of what comes next
pub record Upheld (l : Ledger) : Type 0 where
  pub sound : Sound l
  -- every open job is due after the clock
  pub nothing_overdue : Each (λ j. l.clock < j.due) l.queue
  -- under every tariff and every measure
  pub next_plan_is_best : (t : Charges) (o : Order) → IsBest l t o (plan_for l t o)
  pub next_booking_is_exact : (j : Job) → ExactVerdict l j (refusal l (booking j))

-- the promise: the calls so far are h, latest first, and the call c comes next
pub record Promise (h : List Call) (c : Call) : Type 0 where
  pub at_the_call : Upheld (ledger h)
  pub answer_is_lawful : AnswerIsLawful (ledger h) c
  pub after_the_call : Upheld (ledger (c ∷ h))
