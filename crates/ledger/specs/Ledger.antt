-- Words: ledger, standing plan, call, sequence, refusal, what a call makes of the ledger.
-- The ledger is the model that a stay is compared with. It is fed calls and nothing else: whether a call is refused it finds by
-- the rules, so that what a stay refuses is compared too.
use Rattle.std.specs.Prelude.{ℕ, suc, ◌+◌, ◌-◌, ◌*◌, ◌≤◌, Bool, true, false, cond, not, ◌&&◌, ◌||◌, List, [], ◌∷◌, length, replicate, Some, None, Option, ◌==◌, nat_le, nat_lt}
use Rattle.tariff.specs.Charges.{last_slot, top_speed, largest_charge}
use Rattle.measure.specs.Orders.{Order, charge_lists}
use Rattle.recursion.specs.Pumps.{Pump, work_after, charges_from, planned_speeds, InTimeSequence}
use Rattle.recursion.specs.Speeds.{lawful_speeds, top_of}
use Rattle.ledger.specs.declared.job.Job.{Job}
use Rattle.ledger.specs.declared.refusal.Refusal.{Refusal}
use Rattle.ledger.specs.declared.refusal.Refusal.TheVariants.{SlotCount, SpeedList, JobNumber, JobSlots, JobWork, NumberOpen, NoRoom, Nested, NotInTime, NoSuchJob, ShortMemory, StayOver, NotPlanned}
use Rattle.ledger.specs.Limits.{most_slots, most_jobs, most_work, largest_number}
use Rattle.ledger.specs.Queue.{inside, enter, strike, arrived, owed, work, pump_slot}

-- the standing plan: its mark, and a speed for each slot not yet run
pub data Standing : Type 0 where
  no_plan : Standing
  plan : ℕ → List ℕ → Standing

pub record Ledger : Type 0 where
  pub slots : ℕ
  pub speeds : List ℕ
  pub clock : ℕ
  pub queue : List Job
  pub standing : Standing

-- what a tariff means: a charge for each slot and speed, within its bound
pub record Charges : Type 0 where
  pub charge : ℕ → ℕ → ℕ
  pub bounded : (k s : ℕ) → k ≤ last_slot → s ≤ top_speed → charge k s ≤ largest_charge

-- a call
pub data Call : Type 0 where
  -- slots, speeds
  opening : ℕ → List ℕ → Call
  -- a job with all its work left
  booking : Job → Call
  -- a job's number
  withdrawing : ℕ → Call
  -- what the tariff means, what the measure means, its mark, and the sizes of the lent memory: bytes, measures
  planning : Charges → Order → ℕ → ℕ → ℕ → Call
  running : Call

-- ## The pump

abbrev pub slots_left : Ledger → ℕ
slots_left l = l.slots - l.clock

-- the pump that a queue gives, with the listed speeds
abbrev pub pump_for : List ℕ → List Job → (ℕ → ℕ → ℕ) → Pump
pump_for speeds q charge = record { speeds = speeds; arrived = arrived q; due = owed q; charge = charge }

abbrev pub no_charge : ℕ → ℕ → ℕ
no_charge k s = 0

-- one listed speed for each slot from the clock to the last, in time for the queue q; charges play no part in it
abbrev pub Sequence : Ledger → List Job → List ℕ → Type 0
Sequence l q ss = InTimeSequence (pump_for l.speeds q no_charge) (slots_left l) l.clock 0 ss

-- in time, as a test
abbrev pub keeps_time : Pump → ℕ → ℕ → List ℕ → Bool
keeps_time y k e [] = true
keeps_time y k e (s ∷ ss) = nat_le (y.due (suc k)) (work_after y k e s) && keeps_time y (suc k) (work_after y k e s) ss

-- top speed in every slot from the clock on
abbrev pub top_throughout : Ledger → List ℕ
top_throughout l = replicate (slots_left l) (top_of l.speeds)

-- some sequence is in time for the queue q, told by top speed in every slot: `top_speed_decides` says that this is exact
-- where the list of speeds is lawful
abbrev pub can_be_in_time : Ledger → List Job → Bool
can_be_in_time l q = keeps_time (pump_for l.speeds q no_charge) l.clock 0 (top_throughout l)

-- the speeds that planning finds, from the clock to the last slot, and the charges of speeds from the clock on
abbrev pub plan_for : Ledger → Charges → Order → List ℕ
plan_for l t o = planned_speeds (charge_lists o.not_above) (pump_for l.speeds l.queue t.charge) (slots_left l) l.clock 0

abbrev pub charges_of : Ledger → Charges → List ℕ → List ℕ
charges_of l t ss = charges_from (pump_for l.speeds l.queue t.charge) l.clock ss

-- ## Refusals

-- an open job has the number n; what is left of it
abbrev pub is_open : ℕ → List Job → Bool
is_open n [] = false
is_open n (j ∷ q) = j.number == n || is_open n q

abbrev pub left_of : ℕ → List Job → ℕ
left_of n [] = 0
left_of n (j ∷ q) = cond (j.number == n) j.left (left_of n q)

-- j would lie inside an open job, or an open job inside it
abbrev pub nested : ℕ → Job → List Job → Bool
nested clock j [] = false
nested clock j (i ∷ q) = inside clock j i || (inside clock i j || nested clock j q)

abbrev pub is_planned : Standing → Bool
is_planned no_plan = false
is_planned (plan mark ss) = true

-- the refusal r where its rule holds, else what the rules after it say
abbrev pub rule : Refusal → Bool → Option Refusal → Option Refusal
rule r holds rest = cond holds (Some r) rest

-- the rules of a booking but for the last, then the rest
abbrev pub booking_rules : Ledger → Job → Option Refusal → Option Refusal
booking_rules l j rest =
    rule JobNumber (j.number == 0 || nat_lt largest_number j.number)
    (rule JobSlots (nat_lt j.release l.clock || (nat_le j.due j.release || nat_lt l.slots j.due))
    (rule JobWork (j.left == 0 || nat_lt most_work j.left)
    (rule NumberOpen (is_open j.number l.queue)
    (rule NoRoom (nat_le most_jobs (length l.queue) || nat_lt most_work (work l.queue + j.left))
    (rule Nested (nested l.clock j l.queue)
    rest)))))

-- the first rule that holds
abbrev pub refusal : Ledger → Call → Option Refusal
refusal l (opening n ss) =
    rule SlotCount (n == 0 || nat_lt most_slots n)
    (rule SpeedList (not (lawful_speeds ss))
    None)
refusal l (booking j) =
    booking_rules l j
    (rule NotInTime (not (can_be_in_time l (enter j l.queue)))
    None)
refusal l (withdrawing n) =
    rule NoSuchJob (not (is_open n l.queue))
    None
refusal l (planning t o mark bytes measures) =
    rule ShortMemory (nat_lt bytes (slots_left l * (work l.queue + 1)) || nat_lt measures (2 * (work l.queue + 1)))
    None
refusal l running =
    rule StayOver (nat_le l.slots l.clock)
    (rule NotPlanned (not (is_planned l.standing))
    None)

-- ## What a call makes of the ledger

abbrev pub with_plan : Standing → Ledger → Ledger
with_plan p l = record { slots = l.slots; speeds = l.speeds; clock = l.clock; queue = l.queue; standing = p }

-- another queue, which drops the plan
abbrev pub with_queue : List Job → Ledger → Ledger
with_queue q l = record { slots = l.slots; speeds = l.speeds; clock = l.clock; queue = q; standing = no_plan }

abbrev pub entered : Job → Ledger → Ledger
entered j l = with_queue (enter j l.queue) l

-- the slot at the clock run at speed s
-- (the standing plan is left as it is: where slots are run in place of a plan, only clock and queue are looked at)
abbrev pub slot_run : ℕ → Ledger → Ledger
slot_run s l = record { slots = l.slots; speeds = l.speeds; clock = suc l.clock; queue = pump_slot l.clock s l.queue; standing = l.standing }

-- the slot at the clock run by the plan's first speed, which the plan then has no more
abbrev pub run_by : Standing → Ledger → Ledger
run_by no_plan l = l
run_by (plan mark []) l = l
run_by (plan mark (s ∷ ss)) l = with_plan (plan mark ss) (slot_run s l)

-- a call that is not refused
abbrev pub accepted : Ledger → Call → Ledger
accepted l (opening n ss) = record { slots = n; speeds = ss; clock = 0; queue = []; standing = no_plan }
accepted l (booking j) = entered j l
accepted l (withdrawing n) = with_queue (strike n l.queue) l
accepted l (planning t o mark bytes measures) = with_plan (plan mark (plan_for l t o)) l
accepted l running = run_by l.standing l

abbrev pub unless_refused : {X : Type 0} → Option Refusal → (Refusal → X) → X → X
unless_refused None refuse accept = accept
unless_refused (Some r) refuse accept = refuse r

-- the ledger after a call: a refusal changes nothing
abbrev pub after : Ledger → Call → Ledger
after l c = unless_refused (refusal l c) (λ r. l) (accepted l c)

-- a new ledger, and the ledger after a list of calls, the latest first
abbrev pub new : Ledger
new = record { slots = 1; speeds = 0 ∷ 1 ∷ []; clock = 0; queue = []; standing = no_plan }

abbrev pub ledger : List Call → Ledger
ledger [] = new
ledger (c ∷ h) = after (ledger h) c
