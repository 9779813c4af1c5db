-- Words: trials. A worked stay with the plans that it must have, in one table.
-- It has four slots, and speeds 0, 1 and 3 at energies 1, 4 and 15. The first job brings two units in slot 0, wanted by the
-- end of slot 1; the second three units in slot 1, wanted by the end of slot 3.
use Rattle.std.specs.Prelude.{◌≡◌, ℕ, List, [], ◌∷◌}
use Rattle.tariff.specs.Bounds.{cubic_charge, price_list_charge, table_charge}
use Rattle.measure.specs.Energies.{energy, stopped}
use Rattle.measure.specs.Kinds.{Kind}
use Rattle.measure.specs.Peaks.{peak, peak_at}
use Rattle.recursion.specs.Optimality.{IsLeast}
use Rattle.recursion.specs.Pumps.{Pump, InTime, decisions, planned_speeds, sequence_measure}
use Rattle.recursion.specs.Work.{pump_of}
use Rattle.recursion.specs.declared.work.SlotWork.{SlotWork}

-- due by the end of a slot, arrived by it
abbrev pub slot : ℕ → ℕ → SlotWork
slot due arrived = record { due = due; arrived = arrived }

abbrev pub both_jobs : List SlotWork
both_jobs = slot 0 2 ∷ slot 2 5 ∷ slot 2 5 ∷ slot 5 5 ∷ []

abbrev pub later_job : List SlotWork
later_job = slot 0 0 ∷ slot 0 3 ∷ slot 0 3 ∷ slot 3 3 ∷ []

abbrev pub no_job : List SlotWork
no_job = slot 0 0 ∷ slot 0 0 ∷ slot 0 0 ∷ slot 0 0 ∷ []

abbrev pub energies : ℕ → ℕ → ℕ
energies = table_charge (1 ∷ 4 ∷ 0 ∷ 15 ∷ [])

abbrev pub dear_late : ℕ → ℕ → ℕ
dear_late = price_list_charge energies (1 ∷ 1 ∷ 9 ∷ 9 ∷ [])

abbrev pub pump_with : List SlotWork → (ℕ → ℕ → ℕ) → Pump
pump_with work charge = pump_of (0 ∷ 1 ∷ 3 ∷ []) 0 work charge

-- the planned speeds of the four slots, with the least measure, which is theirs
pub record Plans {M : Type 0} (q : Kind M) (y : Pump) (speeds : List ℕ) (m : M) : Type 0 where
  pub planned : planned_speeds q y 4 0 0 ≡ speeds
  -- the speed of slot 0
  pub first : ℕ
  pub least : IsLeast q (decisions y) 4 0 0 first m
  pub measure : sequence_measure q y 0 speeds ≡ m

pub record Trials : Type 0 where
  pub planned_by_energy : Plans energy (pump_with both_jobs energies) (0 ∷ 3 ∷ 1 ∷ 1 ∷ []) (stopped 24)
  pub by_peak : Plans peak (pump_with both_jobs energies) (0 ∷ 3 ∷ 1 ∷ 1 ∷ []) (peak_at 15)
  -- 0, 3, 0, 3 is in time and peaks as high, but from slot 2 on it peaks at 15 and the plan at 4
  pub other_in_time : InTime (pump_with both_jobs energies) 0 0 (0 ∷ 3 ∷ 0 ∷ 3 ∷ [])
  pub other_peak : sequence_measure peak (pump_with both_jobs energies) 0 (0 ∷ 3 ∷ 0 ∷ 3 ∷ []) ≡ peak_at 15
  pub other_rest : sequence_measure peak (pump_with both_jobs energies) 2 (0 ∷ 3 ∷ []) ≡ peak_at 15
  pub planned_rest : sequence_measure peak (pump_with both_jobs energies) 2 (1 ∷ 1 ∷ []) ≡ peak_at 4
  pub priced_late : Plans energy (pump_with both_jobs dear_late) (3 ∷ 3 ∷ 0 ∷ 0 ∷ []) (stopped 48)
  pub without_work : Plans energy (pump_with no_job energies) (0 ∷ 0 ∷ 0 ∷ 0 ∷ []) (stopped 4)
  pub later_alone : Plans energy (pump_with later_job energies) (0 ∷ 1 ∷ 1 ∷ 1 ∷ []) (stopped 13)
  pub cubic : cubic_charge 10 2 1 3 ≡ 43
