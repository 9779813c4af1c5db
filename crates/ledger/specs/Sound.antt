-- Words: sound. What is true of the ledger after every list of calls.
use Rattle.std.specs.Prelude.{◌≡◌, ℕ, ◌<◌, ◌≤◌, true, List, length}
use Rattle.recursion.specs.Speeds.{lawful_speeds}
use Rattle.ledger.specs.declared.job.Job.{Job}
use Rattle.ledger.specs.Limits.{most_slots, most_jobs, most_work, largest_number}
use Rattle.ledger.specs.Queue.{Each, Distinct, Ordered, Unnested, work}
use Rattle.ledger.specs.Ledger.{Ledger, Standing, no_plan, plan, Sequence}

-- an open job at the clock, where there are so many slots
pub record Fair (clock slots : ℕ) (j : Job) : Type 0 where
  pub numbered : 1 ≤ j.number
  pub number_within : j.number ≤ largest_number
  pub some_left : 1 ≤ j.left
  pub left_within : j.left ≤ most_work
  pub released_before_due : j.release < j.due
  pub due_ahead : clock < j.due
  pub due_within : j.due ≤ slots

-- a standing plan is a sequence in time
abbrev pub PlanFits : Ledger → Standing → Type 0
PlanFits l no_plan = Unit {0}
PlanFits l (plan mark ss) = Sequence l l.queue ss

pub record Sound (l : Ledger) : Type 0 where
  pub some_slot : 1 ≤ l.slots
  pub slots_within : l.slots ≤ most_slots
  pub clock_within : l.clock ≤ l.slots
  pub lawful : lawful_speeds l.speeds ≡ true
  pub few : length l.queue ≤ most_jobs
  pub light : work l.queue ≤ most_work
  pub jobs : Each (Fair l.clock l.slots) l.queue
  pub distinct : Distinct l.queue
  pub ordered : Ordered l.queue
  pub unnested : Unnested l.clock l.queue
  -- some sequence is in time
  pub possible : (ss : List ℕ) × Sequence l l.queue ss
  pub standing_fits : PlanFits l l.standing
