-- Words: trials. Worked stays with what they must come to, one table.
use Rattle.std.specs.Prelude.{◌≡◌, ℕ, List, [], ◌∷◌, length}
use Rattle.tariff.specs.Bounds.{cubic_charge}
use Rattle.measure.specs.Energies.{energy, energy_laws, stopped}
use Rattle.measure.specs.Kinds.{Kind, Laws, measure_of}
use Rattle.measure.specs.Orders.{order_of}
use Rattle.measure.specs.Peaks.{peak, peak_laws, peak_at}
use Rattle.ledger.specs.Ledger.{Charges, Call, opening, booking, planning, running, ledger, plan_for, charges_of}
use Rattle.ledger.specs.Answers.{planned, ran}
use Rattle.ledger.specs.Promise.{Rival}
use Rattle.ledger.specs.Stays.{table, priced_table, job, early_job, late_job, bare, both, wide, by_energy, ran_on, run, met, told}

-- planning after h, under a tariff and a measure, finds these speeds, answers their slots and charges, and their measure is m
pub record Plans {M : Type 0} (h : List Call) (t : Charges) (q : Kind M) (laws : Laws q) (mark : ℕ) (ss : List ℕ) (m : M) : Type 0 where
  pub speeds : plan_for (ledger h) t (order_of laws) ≡ ss
  pub answer : told h (planning t (order_of laws) mark 24 12) ≡ planned (length ss) (charges_of (ledger h) t ss)
  pub measure : measure_of q (charges_of (ledger h) t ss) ≡ m

-- the measure of speeds under the table by peak, from the clock on
abbrev pub peak_of : List Call → List ℕ → ℕ
peak_of h ss = (measure_of peak (charges_of (ledger h) table ss)).value

pub record Trials : Type 0 where
  -- stay A with both jobs: by energy; by peak; at prices 1, 1, 9, 9
  pub planned_by_energy : Plans both table energy energy_laws 1 (0 ∷ 3 ∷ 1 ∷ 1 ∷ []) (stopped 24)
  pub by_peak : Plans both table peak peak_laws 2 (0 ∷ 3 ∷ 1 ∷ 1 ∷ []) (peak_at 15)
  pub at_prices : Plans both priced_table energy energy_laws 1 (3 ∷ 3 ∷ 0 ∷ 0 ∷ []) (stopped 48)
  -- 0, 3, 0, 3 peaks as high as the plan, but from slot 2 on it peaks at 15, and 1, 1 at 4
  pub other_rival : Rival (ledger both) (0 ∷ 3 ∷ 0 ∷ 3 ∷ [])
  pub same_peak : peak_of both (0 ∷ 3 ∷ 0 ∷ 3 ∷ []) ≡ 15
  pub later_peaks : (peak_of (run 2) (0 ∷ 3 ∷ []) ≡ 15) × (peak_of (run 2) (1 ∷ 1 ∷ []) ≡ 4)
  -- without jobs; with the later one alone
  pub without_jobs : Plans bare table energy energy_laws 1 (0 ∷ 0 ∷ 0 ∷ 0 ∷ []) (stopped 4)
  pub later_alone : Plans (late_job ∷ bare) table energy energy_laws 1 (0 ∷ 1 ∷ 1 ∷ 1 ∷ []) (stopped 13)
  -- what can be in time, and what cannot
  pub one_slot : met bare (booking (job 1 0 1 3) ∷ booking (job 1 0 1 4) ∷ []) ≡ 0 ∷ 9 ∷ []
  pub beside_the_early : met (early_job ∷ bare) (booking (job 1 1 4 9) ∷ booking (job 1 1 4 10) ∷ []) ≡ 0 ∷ 9 ∷ []
  -- a job inside another, at clock 0 and after a slot run at speed 0
  pub nested_at_first : met wide (booking (job 1 1 3 1) ∷ []) ≡ 8 ∷ []
  pub idle_slot : told (by_energy ∷ wide) running ≡ ran 0 0 0
  pub nested_no_more : met (ran_on 1 (by_energy ∷ wide)) (booking (job 1 1 3 1) ∷ []) ≡ 0 ∷ []
  pub then_planned : Plans (booking (job 1 1 3 1) ∷ ran_on 1 (by_energy ∷ wide)) table energy energy_laws 1 (1 ∷ 1 ∷ 1 ∷ []) (stopped 12)
  -- the slots of stay A with both jobs, run
  pub first_slot : told (run 0) running ≡ ran 0 0 0
  pub second_slot : told (run 1) running ≡ ran 3 3 1
  pub third_slot : told (run 2) running ≡ ran 1 1 0
  pub fourth_slot : told (run 3) running ≡ ran 1 1 1
  pub no_fifth_slot : met (run 4) (running ∷ []) ≡ 12 ∷ []
  -- the most slots, and the fastest speed
  pub slots : met [] (opening 96 (0 ∷ 1 ∷ []) ∷ opening 97 (0 ∷ 1 ∷ []) ∷ []) ≡ 0 ∷ 1 ∷ []
  pub speeds : met [] (opening 4 (0 ∷ 15 ∷ []) ∷ opening 4 (0 ∷ 16 ∷ []) ∷ []) ≡ 0 ∷ 2 ∷ []
  -- a cubic drive
  pub cubic : cubic_charge 10 2 1 3 ≡ 43
