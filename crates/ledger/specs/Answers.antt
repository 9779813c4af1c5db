-- Words: what a call is answered, and the questions: the clock, the open job at a place, the standing speed of a slot, the
-- mark of the standing plan.
use Rattle.std.specs.Prelude.{ℕ, zero, suc, ◌+◌, ◌-◌, cond, List, [], ◌∷◌, length, Some, None, Option, nat_lt}
use Rattle.ledger.specs.declared.job.Job.{Job}
use Rattle.ledger.specs.declared.refusal.Refusal.{Refusal}
use Rattle.ledger.specs.Queue.{pumped, units_pumped, finished}
use Rattle.ledger.specs.Ledger.{Standing, no_plan, plan, Ledger, Call, opening, booking, withdrawing, planning, running, slots_left, plan_for, charges_of, left_of, refusal, unless_refused}

pub data Answer : Type 0 where
  refused : Refusal → Answer
  opened : Answer
  -- the count of open jobs after it
  booked : ℕ → Answer
  -- what was left
  withdrew : ℕ → Answer
  -- the number of slots, and the charges of the planned speeds, whose measure is answered
  planned : ℕ → List ℕ → Answer
  -- the speed, the units pumped, the jobs finished
  ran : ℕ → ℕ → ℕ → Answer

abbrev pub speed_now : Standing → ℕ
speed_now no_plan = 0
speed_now (plan mark []) = 0
speed_now (plan mark (s ∷ ss)) = s

-- a call that is not refused
abbrev pub answered : Ledger → Call → Answer
answered l (opening n ss) = opened
answered l (booking j) = booked (length l.queue + 1)
answered l (withdrawing n) = withdrew (left_of n l.queue)
answered l (planning t o mark bytes measures) = planned (slots_left l) (charges_of l t (plan_for l t o))
answered l running =
    ran (speed_now l.standing)
    (units_pumped l.clock (speed_now l.standing) l.queue)
    (finished (pumped l.clock (speed_now l.standing) l.queue))

abbrev pub answer : Ledger → Call → Answer
answer l c = unless_refused (refusal l c) refused (answered l c)

-- ## Questions, each answered if there is an answer; the clock always is

abbrev pub at : {X : Type 0} → List X → ℕ → Option X
at [] i = None
at (x ∷ xs) zero = Some x
at (x ∷ xs) (suc i) = at xs i

abbrev pub clock_of : Ledger → ℕ
clock_of l = l.clock

-- the open job at place i of the queue, from 0
abbrev pub job_at : Ledger → ℕ → Option Job
job_at l i = at l.queue i

abbrev pub standing_speeds : Standing → List ℕ
standing_speeds no_plan = []
standing_speeds (plan mark ss) = ss

-- the standing speed of slot k, if it is not yet run
abbrev pub speed_at : Ledger → ℕ → Option ℕ
speed_at l k = cond (nat_lt k l.clock) None (at (standing_speeds l.standing) (k - l.clock))

abbrev pub standing_mark : Standing → Option ℕ
standing_mark no_plan = None
standing_mark (plan mark ss) = Some mark

abbrev pub mark_of : Ledger → Option ℕ
mark_of l = standing_mark l.standing
