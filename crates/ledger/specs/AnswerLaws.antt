-- Words: the laws of the answers. What each call answers and changes, in terms of the queue before and after.
use Rattle.std.specs.Prelude.{◌≡◌, ℕ, suc, ◌+◌, min, true, false, List, [], ◌∷◌, ◌++◌, length, Some, None}
use Rattle.ledger.specs.declared.job.Job.{Job}
use Rattle.ledger.specs.declared.refusal.Refusal.{Refusal}
use Rattle.ledger.specs.Queue.{Each, before, work, arrived, pump_slot}
use Rattle.ledger.specs.Ledger.{Ledger, no_plan, plan, Call, opening, booking, withdrawing, planning, running, refusal, after, slots_left, plan_for, charges_of}
use Rattle.ledger.specs.Answers.{Answer, refused, opened, booked, withdrew, planned, ran, answer}

-- a refusal answers itself and changes nothing
abbrev pub RefusalIsLawful : Ledger → Call → Type 0
RefusalIsLawful l c = (r : Refusal) → refusal l c ≡ Some r → (answer l c ≡ refused r) × (after l c ≡ l)

-- nothing changes but the queue, and no plan stands
pub record OnlyQueue (l m : Ledger) : Type 0 where
  pub slots : m.slots ≡ l.slots
  pub speeds : m.speeds ≡ l.speeds
  pub clock : m.clock ≡ l.clock
  pub standing : m.standing ≡ no_plan

-- the queue r is q with the job j between two parts, which are as they were: each job in front of it goes before it or is
-- level with it, and no job behind it does
pub record Entered (j : Job) (q r : List Job) : Type 0 where
  pub front : List Job
  pub back : List Job
  pub was : q ≡ front ++ back
  pub is : r ≡ front ++ (j ∷ back)
  pub ahead : Each (λ i. before i j ≡ true) front
  pub behind : Each (λ i. before i j ≡ false) back

pub record BookingIsLawful (l : Ledger) (j : Job) : Type 0 where
  pub entered : Entered j l.queue (after l (booking j)).queue
  pub answers : answer l (booking j) ≡ booked (length (after l (booking j)).queue)
  pub only_queue : OnlyQueue l (after l (booking j))

-- a withdrawal takes one job out and leaves the others in order; it answers what the open work falls by
pub record WithdrawalIsLawful (l : Ledger) (n : ℕ) : Type 0 where
  pub front : List Job
  pub job : Job
  pub back : List Job
  pub its_number : job.number ≡ n
  pub was : l.queue ≡ front ++ (job ∷ back)
  pub is : (after l (withdrawing n)).queue ≡ front ++ back
  pub answers : answer l (withdrawing n) ≡ withdrew job.left
  pub falls : work l.queue ≡ work (after l (withdrawing n)).queue + job.left
  pub only_queue : OnlyQueue l (after l (withdrawing n))

-- only the standing plan changes
pub record PlanningIsLawful (l m : Ledger) (mark : ℕ) (ss : List ℕ) : Type 0 where
  pub slots : m.slots ≡ l.slots
  pub speeds : m.speeds ≡ l.speeds
  pub clock : m.clock ≡ l.clock
  pub queue : m.queue ≡ l.queue
  pub standing : m.standing ≡ plan mark ss

-- a slot runs at the first speed of the standing plan, pumps the smaller of it and what has arrived, which is what the
-- open work falls by, and finishes as many jobs as the count falls by
pub record RunIsLawful (l m : Ledger) (a : Answer) : Type 0 where
  pub mark : ℕ
  pub speed : ℕ
  pub rest : List ℕ
  pub stood : l.standing ≡ plan mark (speed ∷ rest)
  pub gone : ℕ
  pub answers : a ≡ ran speed (min speed (arrived l.queue l.clock)) gone
  pub falls : work l.queue ≡ work m.queue + min speed (arrived l.queue l.clock)
  pub count_falls : length l.queue ≡ length m.queue + gone
  -- in queue order
  pub queue : m.queue ≡ pump_slot l.clock speed l.queue
  pub slots : m.slots ≡ l.slots
  pub speeds : m.speeds ≡ l.speeds
  pub clock : m.clock ≡ suc l.clock
  pub standing : m.standing ≡ plan mark rest

-- what an accepted call answers and changes
abbrev pub AcceptanceIsLawful : Ledger → Call → Type 0
AcceptanceIsLawful l (opening n ss) =
    (answer l (opening n ss) ≡ opened)
    × (after l (opening n ss) ≡ record { slots = n; speeds = ss; clock = 0; queue = []; standing = no_plan })
AcceptanceIsLawful l (booking j) = BookingIsLawful l j
AcceptanceIsLawful l (withdrawing n) = WithdrawalIsLawful l n
AcceptanceIsLawful l (planning t o mark bytes measures) =
    (answer l (planning t o mark bytes measures) ≡ planned (slots_left l) (charges_of l t (plan_for l t o)))
    × PlanningIsLawful l (after l (planning t o mark bytes measures)) mark (plan_for l t o)
AcceptanceIsLawful l running = RunIsLawful l (after l running) (answer l running)

pub record AnswerIsLawful (l : Ledger) (c : Call) : Type 0 where
  pub refusal_is_lawful : RefusalIsLawful l c
  pub acceptance_is_lawful : refusal l c ≡ None → AcceptanceIsLawful l c
