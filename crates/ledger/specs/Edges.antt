-- Words: edges. Each rule on both sides of each of its bounds, the order of the queue, pumping, every answer and every
-- question, one table. A row lists how calls are met: the number of the refusal, 0 for none.
use Rattle.std.specs.Prelude.{◌≡◌, ℕ, zero, suc, List, [], ◌∷◌, Some, None}
use Rattle.ledger.specs.declared.job.Job.{Job}
use Rattle.ledger.specs.declared.refusal.Refusal.TheVariants.{NotInTime, StayOver}
use Rattle.ledger.specs.Queue.{pump_slot, units_pumped, finished, pumped, arrived, owed}
use Rattle.ledger.specs.Ledger.{Ledger, Standing, no_plan, plan, Call, opening, booking, withdrawing, planning, running, refusal, ledger}
use Rattle.ledger.specs.Answers.{refused, opened, booked, withdrew, planned, ran, clock_of, job_at, speed_at, mark_of}
use Rattle.ledger.specs.Promise.{runs, Finishes}
use Rattle.ledger.specs.Stays.{energies, peaks, table, job, early_job, late_job, bare, both, wide, long, by_energy, ran_on, run, met, told}

-- n jobs of one unit each, numbered from 1
abbrev pub many : ℕ → List Call
many zero = long
many (suc n) = let h = many n in booking (job (suc n) 0 96 1) ∷ h

-- the numbers of the jobs of a queue, in order, and what is left of each
abbrev pub numbers : List Job → List ℕ
numbers [] = []
numbers (j ∷ q) = j.number ∷ numbers q

abbrev pub lefts : List Job → List ℕ
lefts [] = []
lefts (j ∷ q) = j.left ∷ lefts q

abbrev pub queue_after : List Call → List Job
queue_after h = (ledger h).queue

-- speeds from 0 to 15, and to 16
abbrev pub sixteen : List ℕ
sixteen = 0 ∷ 1 ∷ 2 ∷ 3 ∷ 4 ∷ 5 ∷ 6 ∷ 7 ∷ 8 ∷ 9 ∷ 10 ∷ 11 ∷ 12 ∷ 13 ∷ 14 ∷ 15 ∷ []

abbrev pub seventeen : List ℕ
seventeen = 0 ∷ 1 ∷ 2 ∷ 3 ∷ 4 ∷ 5 ∷ 6 ∷ 7 ∷ 8 ∷ 9 ∷ 10 ∷ 11 ∷ 12 ∷ 13 ∷ 14 ∷ 15 ∷ 16 ∷ []

-- one slot of the stay with the wide job run, the clock at 1
abbrev pub clock_at_one : List Call
clock_at_one = ran_on 1 (by_energy ∷ wide)

-- nearly all the work that may be open
abbrev pub heavy : List Call
heavy = booking (job 1 0 96 599) ∷ long

pub record RuleEdges : Type 0 where
  -- 1: slots 0, 1, 96, 97
  pub slots : met [] (opening 0 (0 ∷ 1 ∷ []) ∷ opening 1 (0 ∷ 1 ∷ []) ∷ opening 96 (0 ∷ 1 ∷ []) ∷ opening 97 (0 ∷ 1 ∷ []) ∷ []) ≡ 1 ∷ 0 ∷ 0 ∷ 1 ∷ []
  -- 2: no speed, 1, 2, 16, 17 (17 that rise strictly from 0 also end above 15); from 1; level; falling; up to 15, to 16
  pub speed_count : met [] (opening 4 [] ∷ opening 4 (0 ∷ []) ∷ opening 4 (0 ∷ 1 ∷ []) ∷ opening 4 sixteen ∷ opening 4 seventeen ∷ []) ≡ 2 ∷ 2 ∷ 0 ∷ 0 ∷ 2 ∷ []
  pub speed_order : met [] (opening 4 (1 ∷ 2 ∷ []) ∷ opening 4 (0 ∷ 1 ∷ 1 ∷ []) ∷ opening 4 (0 ∷ 2 ∷ 1 ∷ []) ∷ opening 4 (0 ∷ 15 ∷ []) ∷ opening 4 (0 ∷ 16 ∷ []) ∷ []) ≡ 2 ∷ 2 ∷ 2 ∷ 0 ∷ 2 ∷ []
  -- 3: numbers 0, 1, 999,999, 1,000,000
  pub number : met bare (booking (job 0 0 4 1) ∷ booking (job 1 0 4 1) ∷ booking (job 999999 0 4 1) ∷ booking (job 1000000 0 4 1) ∷ []) ≡ 3 ∷ 0 ∷ 0 ∷ 3 ∷ []
  -- 4: release before, at and after the clock; due before the release, at it, after it, at the end, past it
  pub release : met clock_at_one (booking (job 1 0 4 1) ∷ booking (job 1 1 4 1) ∷ booking (job 1 2 4 1) ∷ []) ≡ 4 ∷ 0 ∷ 0 ∷ []
  pub due : met bare (booking (job 1 2 1 1) ∷ booking (job 1 2 2 1) ∷ booking (job 1 2 3 1) ∷ booking (job 1 2 4 1) ∷ booking (job 1 2 5 1) ∷ []) ≡ 4 ∷ 4 ∷ 0 ∷ 0 ∷ 4 ∷ []
  -- 5: work 0, 1, 600, 601
  pub work : met long (booking (job 1 0 96 0) ∷ booking (job 1 0 96 1) ∷ booking (job 1 0 96 600) ∷ booking (job 1 0 96 601) ∷ []) ≡ 5 ∷ 0 ∷ 0 ∷ 5 ∷ []
  -- 6: an open number and another; one that was withdrawn; one that is finished
  pub number_open : met (early_job ∷ bare) (booking (job 101 1 4 1) ∷ booking (job 100 1 4 1) ∷ []) ≡ 6 ∷ 0 ∷ []
  pub number_withdrawn : met (withdrawing 101 ∷ early_job ∷ bare) (booking (job 101 1 4 1) ∷ []) ≡ 0 ∷ []
  pub number_finished : met (run 2) (booking (job 101 2 4 1) ∷ booking (job 102 2 4 1) ∷ []) ≡ 0 ∷ 6 ∷ []
  -- 7: the 64th job and the 65th; 600 units in all and 601
  pub last_place : met (many 63) (booking (job 100 0 96 1) ∷ []) ≡ 0 ∷ []
  pub no_place : met (many 64) (booking (job 100 0 96 1) ∷ []) ≡ 7 ∷ []
  pub work_in_all : met heavy (booking (job 2 0 96 1) ∷ booking (job 2 0 96 2) ∷ []) ≡ 0 ∷ 7 ∷ []
  -- 8: inside an open job, with the same due slot, the same release, both; an open job inside it, and the same
  pub inside_open : met wide (booking (job 1 1 3 1) ∷ booking (job 1 1 4 1) ∷ booking (job 1 0 3 1) ∷ booking (job 1 0 4 1) ∷ []) ≡ 8 ∷ 0 ∷ 0 ∷ 0 ∷ []
  pub open_inside : met (booking (job 1 1 3 1) ∷ bare) (booking (job 2 0 4 1) ∷ booking (job 2 0 3 1) ∷ booking (job 2 1 4 1) ∷ booking (job 2 2 4 1) ∷ []) ≡ 8 ∷ 0 ∷ 0 ∷ 0 ∷ []
  -- by the counted release: with the clock at 1, a release of 1 is no later than one of 0, and one of 2 is
  pub counted_release : met clock_at_one (booking (job 1 1 3 1) ∷ booking (job 1 2 3 1) ∷ []) ≡ 0 ∷ 8 ∷ []
  -- numbers past what a byte or two can hold are not cut
  pub wide_numbers : met bare (opening 260 (0 ∷ 1 ∷ []) ∷ opening 4 (0 ∷ 257 ∷ []) ∷ booking (job 1 256 260 1) ∷ booking (job 1 0 260 1) ∷ booking (job 1 0 4 65537) ∷ []) ≡ 1 ∷ 2 ∷ 4 ∷ 4 ∷ 5 ∷ []
  -- 9: as much as top speed can do, and one more; alone, and beside another job
  pub in_time : met bare (booking (job 1 0 1 3) ∷ booking (job 1 0 1 4) ∷ booking (job 1 3 4 3) ∷ booking (job 1 3 4 4) ∷ []) ≡ 0 ∷ 9 ∷ 0 ∷ 9 ∷ []
  pub in_time_beside : met (early_job ∷ bare) (booking (job 1 1 4 9) ∷ booking (job 1 1 4 10) ∷ booking (job 1 0 1 2) ∷ booking (job 1 0 2 4) ∷ booking (job 1 0 2 5) ∷ []) ≡ 0 ∷ 9 ∷ 0 ∷ 0 ∷ 9 ∷ []
  -- a new job that is in time itself can make an open one late
  pub makes_another_late : met (booking (job 1 0 2 5) ∷ bare) (booking (job 2 0 1 1) ∷ booking (job 2 0 1 2) ∷ []) ≡ 0 ∷ 9 ∷ []
  -- 10: an open number; one that no job has, or none could have; one that was withdrawn; one that is finished
  pub withdrawing_open : met both (withdrawing 101 ∷ withdrawing 102 ∷ withdrawing 103 ∷ withdrawing 0 ∷ withdrawing 1000000 ∷ []) ≡ 0 ∷ 0 ∷ 10 ∷ 10 ∷ 10 ∷ []
  pub withdrawing_gone : met (withdrawing 101 ∷ both) (withdrawing 101 ∷ []) ≡ 10 ∷ []
  pub withdrawing_finished : met (run 2) (withdrawing 101 ∷ withdrawing 102 ∷ []) ≡ 10 ∷ 0 ∷ []
  -- 11: just enough memory, more, a byte short, a measure short; with two slots and two units left; at the end
  pub memory : met both (planning table energies 1 24 12 ∷ planning table energies 1 25 13 ∷ planning table energies 1 23 12 ∷ planning table energies 1 24 11 ∷ []) ≡ 0 ∷ 0 ∷ 11 ∷ 11 ∷ []
  pub memory_later : met (run 2) (planning table energies 1 6 6 ∷ planning table energies 1 5 6 ∷ planning table energies 1 6 5 ∷ []) ≡ 0 ∷ 11 ∷ 11 ∷ []
  pub memory_at_end : met (run 4) (planning table energies 1 0 2 ∷ planning table energies 1 0 1 ∷ []) ≡ 0 ∷ 11 ∷ []
  -- 12: in the last slot, and at the end with a plan
  pub at_last_slot : met (run 3) (running ∷ []) ≡ 0 ∷ []
  pub at_end : met (planning table energies 1 0 2 ∷ run 4) (running ∷ []) ≡ 12 ∷ []
  -- 13: no plan; dropped by a booking, by a withdrawal, by an opening; kept by refusals
  pub unplanned : met both (running ∷ []) ≡ 13 ∷ []
  pub dropped_by_booking : met (booking (job 1 0 4 1) ∷ run 0) (running ∷ []) ≡ 13 ∷ []
  pub dropped_by_withdrawing : met (withdrawing 101 ∷ run 0) (running ∷ []) ≡ 13 ∷ []
  pub dropped_by_opening : met (opening 4 (0 ∷ 1 ∷ []) ∷ run 0) (running ∷ []) ≡ 13 ∷ []
  pub kept_by_refusals : met (opening 0 [] ∷ booking (job 101 0 4 1) ∷ withdrawing 7 ∷ planning table peaks 2 0 0 ∷ run 0) (running ∷ []) ≡ 0 ∷ []

-- where two rules hold, the lower number
pub record FirstRules : Type 0 where
  pub one_and_two : met [] (opening 0 [] ∷ []) ≡ 1 ∷ []
  pub three_to_five : met bare (booking (job 0 2 2 0) ∷ booking (job 1 2 2 0) ∷ []) ≡ 3 ∷ 4 ∷ []
  pub five_and_six : met (early_job ∷ bare) (booking (job 101 0 2 0) ∷ []) ≡ 5 ∷ []
  pub six_and_seven : met heavy (booking (job 1 0 96 2) ∷ []) ≡ 6 ∷ []
  pub seven_and_eight : met heavy (booking (job 2 1 95 2) ∷ []) ≡ 7 ∷ []
  pub seven_and_nine : met heavy (booking (job 2 0 1 20) ∷ []) ≡ 7 ∷ []
  pub six_and_full : met (many 64) (booking (job 1 0 96 1) ∷ []) ≡ 6 ∷ []
  pub full_and_more : met (many 64) (booking (job 100 1 95 1) ∷ booking (job 100 0 1 20) ∷ []) ≡ 7 ∷ 7 ∷ []
  pub eight_and_nine : met wide (booking (job 1 1 3 100) ∷ []) ≡ 8 ∷ []
  -- a ledger made by hand: no list of calls leads to the end with no plan
  pub twelve_and_thirteen : refusal (record { slots = 1; speeds = 0 ∷ 1 ∷ []; clock = 1; queue = []; standing = no_plan }) running ≡ Some StayOver

pub record QueueEdges : Type 0 where
  -- by due slot, then by release; level jobs by the order of booking
  pub by_due : numbers (queue_after (booking (job 1 0 2 1) ∷ booking (job 2 0 3 1) ∷ booking (job 3 0 4 1) ∷ bare)) ≡ 1 ∷ 2 ∷ 3 ∷ []
  pub by_release : numbers (queue_after (booking (job 1 0 4 1) ∷ booking (job 2 1 4 1) ∷ booking (job 3 2 4 1) ∷ bare)) ≡ 1 ∷ 2 ∷ 3 ∷ []
  pub due_first : numbers (queue_after (booking (job 1 1 4 1) ∷ booking (job 2 1 3 1) ∷ bare)) ≡ 2 ∷ 1 ∷ []
  pub level : numbers (queue_after (booking (job 1 0 4 1) ∷ booking (job 3 0 4 1) ∷ booking (job 2 0 4 1) ∷ bare)) ≡ 2 ∷ 3 ∷ 1 ∷ []
  pub level_between : numbers (queue_after (booking (job 5 1 4 1) ∷ booking (job 4 2 4 1) ∷ booking (job 6 1 4 1) ∷ booking (job 7 0 4 1) ∷ bare)) ≡ 7 ∷ 6 ∷ 5 ∷ 4 ∷ []
  -- at clock 1 the plain release still orders level due slots
  pub plain_release_orders : numbers (queue_after (booking (job 1 1 4 1) ∷ clock_at_one)) ≡ 103 ∷ 1 ∷ []
  -- what has arrived by slots 0, 1, 2, and what is owed by 1, 2, 3, 4
  pub arrived_by : (arrived (queue_after both) 0 ≡ 2) × (arrived (queue_after both) 1 ≡ 5) × (arrived (queue_after both) 2 ≡ 5)
  pub owed_by : (owed (queue_after both) 1 ≡ 0) × (owed (queue_after both) 2 ≡ 2) × (owed (queue_after both) 3 ≡ 2) × (owed (queue_after both) 4 ≡ 5)
  -- a slot: nothing before the release, at it no more than is left, the rest to the next job, and the finished gone
  pub before_release : lefts (pump_slot 0 3 (job 1 1 4 2 ∷ [])) ≡ 2 ∷ []
  pub at_release : lefts (pump_slot 1 1 (job 1 1 4 2 ∷ [])) ≡ 1 ∷ []
  pub no_more_than_left : lefts (pump_slot 1 3 (job 1 1 4 2 ∷ [])) ≡ []
  pub rest_to_next : lefts (pump_slot 1 3 (job 1 1 4 2 ∷ job 2 1 4 2 ∷ job 3 1 4 2 ∷ [])) ≡ 1 ∷ 2 ∷ []
  -- in a queue made by hand, a released job behind an unreleased one is pumped
  pub behind_unreleased : numbers (pump_slot 0 3 (job 1 1 3 2 ∷ job 2 0 4 2 ∷ [])) ≡ 1 ∷ []
  pub behind_unreleased_units : (units_pumped 0 3 (job 1 1 3 2 ∷ job 2 0 4 2 ∷ []) ≡ 2) × (finished (pumped 0 3 (job 1 1 3 2 ∷ job 2 0 4 2 ∷ [])) ≡ 1)

pub record AnswerEdges : Type 0 where
  pub opening_answers : told both (opening 4 (0 ∷ 1 ∷ [])) ≡ opened
  pub booking_answers : (told bare early_job ≡ booked 1) × (told (early_job ∷ bare) late_job ≡ booked 2)
  pub withdrawing_answers : (told both (withdrawing 101) ≡ withdrew 2) × (told both (withdrawing 102) ≡ withdrew 3)
  -- what was left, not what was booked
  pub withdrawing_later : told (run 2) (withdrawing 102) ≡ withdrew 2
  pub planning_answers : told both (planning table energies 1 24 12) ≡ planned 4 (1 ∷ 15 ∷ 4 ∷ 4 ∷ [])
  pub planning_later : told (run 2) (planning table energies 1 6 6) ≡ planned 2 (4 ∷ 4 ∷ [])
  pub planning_at_end : told (run 4) (planning table energies 1 0 2) ≡ planned 0 []
  pub running_answers : told (run 1) running ≡ ran 3 3 1
  -- a slot at a speed that is more than has arrived
  pub running_short : told (planning table energies 1 400 400 ∷ booking (job 1 0 1 2) ∷ bare) running ≡ ran 3 2 1
  pub refusal_answers : told bare (booking (job 1 0 1 4)) ≡ refused NotInTime

pub record QuestionEdges : Type 0 where
  pub clock : (clock_of (ledger []) ≡ 0) × (clock_of (ledger (run 3)) ≡ 3) × (clock_of (ledger (opening 4 (0 ∷ 1 ∷ []) ∷ run 3)) ≡ 0)
  pub jobs : (job_at (ledger both) 0 ≡ Some (job 101 0 2 2)) × (job_at (ledger both) 1 ≡ Some (job 102 1 4 3)) × (job_at (ledger both) 2 ≡ None)
  pub jobs_later : (job_at (ledger (run 2)) 0 ≡ Some (job 102 1 4 2)) × (job_at (ledger (run 2)) 1 ≡ None)
  pub speeds : (speed_at (ledger (run 0)) 0 ≡ Some 0) × (speed_at (ledger (run 0)) 1 ≡ Some 3) × (speed_at (ledger (run 0)) 3 ≡ Some 1) × (speed_at (ledger (run 0)) 4 ≡ None)
  pub speeds_later : (speed_at (ledger (run 2)) 1 ≡ None) × (speed_at (ledger (run 2)) 2 ≡ Some 1) × (speed_at (ledger (run 2)) 4 ≡ None)
  pub no_speeds : (speed_at (ledger both) 0 ≡ None) × (speed_at (ledger (withdrawing 101 ∷ run 0)) 0 ≡ None)
  pub mark : (mark_of (ledger both) ≡ None) × (mark_of (ledger (run 0)) ≡ Some 1) × (mark_of (ledger (planning table peaks 2 24 12 ∷ run 0)) ≡ Some 2)
  pub mark_kept : (mark_of (ledger (run 2)) ≡ Some 1) × (mark_of (ledger (planning table peaks 2 23 12 ∷ run 0)) ≡ Some 1)
  pub speeds_at_end : (speed_at (ledger (planning table peaks 2 0 2 ∷ ran_on 4 (by_energy ∷ both))) 3 ≡ None) × (speed_at (ledger (planning table peaks 2 0 2 ∷ ran_on 4 (by_energy ∷ both))) 4 ≡ None)
  pub mark_at_end : mark_of (ledger (planning table peaks 2 0 2 ∷ run 4)) ≡ Some 2

-- stay A with a clock, a queue and a standing plan
abbrev pub stay_a : ℕ → List Job → Standing → Ledger
stay_a clock queue standing = record { slots = 4; speeds = 0 ∷ 1 ∷ 3 ∷ []; clock = clock; queue = queue; standing = standing }

pub record LedgerEdges : Type 0 where
  pub new : ledger [] ≡ record { slots = 1; speeds = 0 ∷ 1 ∷ []; clock = 0; queue = []; standing = no_plan }
  -- each call accepted
  pub opened : ledger bare ≡ stay_a 0 [] no_plan
  pub booked : ledger both ≡ stay_a 0 (job 101 0 2 2 ∷ job 102 1 4 3 ∷ []) no_plan
  pub planned : ledger (run 0) ≡ stay_a 0 (job 101 0 2 2 ∷ job 102 1 4 3 ∷ []) (plan 1 (0 ∷ 3 ∷ 1 ∷ 1 ∷ []))
  pub ran_one : ledger (run 1) ≡ stay_a 1 (job 101 0 2 2 ∷ job 102 1 4 3 ∷ []) (plan 1 (3 ∷ 1 ∷ 1 ∷ []))
  pub ran_two : ledger (run 2) ≡ stay_a 2 (job 102 1 4 2 ∷ []) (plan 1 (1 ∷ 1 ∷ []))
  pub ran_all : ledger (run 4) ≡ stay_a 4 [] (plan 1 [])
  pub booked_later : ledger (booking (job 7 1 4 1) ∷ run 1) ≡ stay_a 1 (job 101 0 2 2 ∷ job 102 1 4 3 ∷ job 7 1 4 1 ∷ []) no_plan
  pub withdrawn : ledger (withdrawing 101 ∷ run 1) ≡ stay_a 1 (job 102 1 4 3 ∷ []) no_plan
  pub planned_again : ledger (planning table peaks 2 400 400 ∷ run 2) ≡ stay_a 2 (job 102 1 4 2 ∷ []) (plan 2 (1 ∷ 1 ∷ []))
  pub opened_afresh : ledger (opening 96 (0 ∷ 15 ∷ []) ∷ run 1) ≡ record { slots = 96; speeds = 0 ∷ 15 ∷ []; clock = 0; queue = []; standing = no_plan }
  -- calls refused by rules 1 to 8, 10 and 11, by 9, by 12 and by 13
  pub kept :
      ledger (opening 97 [] ∷ opening 4 [] ∷ booking (job 0 1 4 1) ∷ booking (job 1 0 4 1) ∷ booking (job 1 1 4 0)
      ∷ booking (job 101 1 4 1) ∷ booking (job 1 1 4 600) ∷ booking (job 1 2 3 1) ∷ withdrawing 7
      ∷ planning table peaks 2 0 0 ∷ run 1)
      ≡ ledger (run 1)
  pub kept_late : ledger (booking (job 1 1 2 2) ∷ run 1) ≡ ledger (run 1)
  pub kept_at_end : ledger (run 5) ≡ ledger (run 4)
  pub kept_unplanned : ledger (ran_on 1 both) ≡ ledger both

-- speeds run on the ledger in place of a plan: what they leave, and which finish the early job by its due slot
pub record RunEdges : Type 0 where
  pub two_slots : runs (0 ∷ 3 ∷ []) (ledger both) ≡ stay_a 2 (job 102 1 4 2 ∷ []) no_plan
  pub all_slots : runs (3 ∷ 0 ∷ 3 ∷ 1 ∷ []) (ledger both) ≡ stay_a 4 [] no_plan
  pub just_in_time : Finishes (ledger both) (0 ∷ 3 ∷ 0 ∷ 0 ∷ []) (job 101 0 2 2)
  pub a_slot_late : Finishes (ledger both) (0 ∷ 1 ∷ 3 ∷ 3 ∷ []) (job 101 0 2 2) → ⊥
  -- with the clock at 1
  pub just_in_time_later : Finishes (ledger (run 1)) (3 ∷ 0 ∷ 0 ∷ []) (job 101 0 2 2)
  pub a_slot_late_later : Finishes (ledger (run 1)) (1 ∷ 3 ∷ 3 ∷ []) (job 101 0 2 2) → ⊥
