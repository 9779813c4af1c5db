-- Words: running and work sums agree, top speed decides, open work arrives, a measure's own values.
use Rattle.std.specs.Prelude.{◌≡◌, ℕ, ◌-◌, ◌<◌, ◌≤◌, true, false, List, [], length}
use Rattle.measure.specs.Kinds.{Kind, Laws, measure_of}
use Rattle.measure.specs.Orders.{order_of}
use Rattle.recursion.specs.Optimality.{IsLeast, Recursion}
use Rattle.recursion.specs.Pumps.{InTime, decisions, planned_speeds}
use Rattle.recursion.specs.Speeds.{lawful_speeds}
use Rattle.recursion.specs.Staged.{Rising}
use Rattle.ledger.specs.declared.job.Job.{Job}
use Rattle.ledger.specs.Queue.{Each, Distinct, Ordered, Unnested, arrived, work}
use Rattle.ledger.specs.Ledger.{Ledger, Charges, slots_left, pump_for, no_charge, Sequence, top_throughout, can_be_in_time, plan_for, charges_of}
use Rattle.ledger.specs.Promise.{Finishes, Rival}

-- an unnested queue in its order, of jobs with numbers of their own, something left of each, due after the clock and by
-- the end of the stay
pub record InLine (clock slots : ℕ) (q : List Job) : Type 0 where
  pub ordered : Ordered q
  pub unnested : Unnested clock q
  pub distinct : Distinct q
  pub some_left : Each (λ j. 1 ≤ j.left) q
  pub due_ahead : Each (λ j. clock < j.due) q
  pub due_within : Each (λ j. j.due ≤ slots) q

-- speeds for the slots left, run on the ledger, finish every open job in time exactly if they are in time by what has
-- arrived and what is owed
pub record RunsAgree (l : Ledger) (ss : List ℕ) : Type 0 where
  pub in_time_finishes : InTime (pump_for l.speeds l.queue no_charge) l.clock 0 ss → Each (Finishes l ss) l.queue
  pub finishes_in_time : Each (Finishes l ss) l.queue → InTime (pump_for l.speeds l.queue no_charge) l.clock 0 ss

abbrev pub RunsAlwaysAgree : Type 0
RunsAlwaysAgree = (l : Ledger) (ss : List ℕ) → InLine l.clock l.slots l.queue → length ss ≡ slots_left l → RunsAgree l ss

-- some sequence of listed speeds is in time for a queue exactly if top speed in every slot is, and the last rule of a
-- booking tells it
pub record TopDecides (l : Ledger) (q : List Job) : Type 0 where
  pub some_if_top : InTime (pump_for l.speeds q no_charge) l.clock 0 (top_throughout l) → (ss : List ℕ) × Sequence l q ss
  pub top_if_some : (ss : List ℕ) → Sequence l q ss → InTime (pump_for l.speeds q no_charge) l.clock 0 (top_throughout l)
  pub some_if_told : can_be_in_time l q ≡ true → (ss : List ℕ) × Sequence l q ss
  pub none_if_told : can_be_in_time l q ≡ false → (ss : List ℕ) → Sequence l q ss → ⊥

abbrev pub TopSpeedDecides : Type 0
TopSpeedDecides = (l : Ledger) (q : List Job) → lawful_speeds l.speeds ≡ true → TopDecides l q

-- the open work of a ledger: while a slot is left, all of it has arrived by the last slot; at the end there is none
pub record OpenWorkArrives (l : Ledger) : Type 0 where
  pub by_last_slot : arrived l.queue (l.slots - 1) ≡ work l.queue
  pub none_at_end : l.clock ≡ l.slots → l.queue ≡ []

-- the promise of planning in the words of a measure of its own
pub record MeasuredPlan {M : Type 0} (q : Kind M) (laws : Laws q) (l : Ledger) (t : Charges) : Type 0 where
  -- what is least keeps the rule of the recursion; the listed speeds rise, so of level ones the lowest is planned
  pub by_the_rule : (m i e : ℕ) → Recursion q (decisions (pump_for l.speeds l.queue t.charge)) m i e
  pub rises : Rising l.speeds
  -- the speeds that the recursion finds over the measure's own values are those of the ledger
  pub same_speeds : planned_speeds q (pump_for l.speeds l.queue t.charge) (slots_left l) l.clock 0 ≡ plan_for l t (order_of laws)
  -- there is a least, and it is the measure of their charges
  pub exists : (s : ℕ) × IsLeast q (decisions (pump_for l.speeds l.queue t.charge)) (slots_left l) l.clock 0 s (measure_of q (charges_of l t (plan_for l t (order_of laws))))
  -- they finish every open job in time, and no rival measures less
  pub finishes : Rival l (plan_for l t (order_of laws))
  pub none_below : (ss : List ℕ) → Rival l ss → q.not_above (measure_of q (charges_of l t (plan_for l t (order_of laws)))) (measure_of q (charges_of l t ss)) ≡ true
