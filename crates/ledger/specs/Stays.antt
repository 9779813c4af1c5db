-- Words: the stays of the tables, told by the calls that lead to them, latest first.
-- Stay A has four slots and speeds 0, 1 and 3 at energies 1, 4 and 15.
use Rattle.std.specs.Prelude.{ℕ, zero, suc, ◌≤◌, List, [], ◌∷◌, Some, None, Option, slice_index}
use Rattle.std.proofs.Common.{arith}
use Rattle.tariff.specs.Bounds.{price_list_charge, table_charge}
use Rattle.tariff.specs.Charges.{largest_charge}
use Rattle.measure.specs.Energies.{energy_laws}
use Rattle.measure.specs.Orders.{Order, order_of}
use Rattle.measure.specs.Peaks.{peak_laws}
use Rattle.ledger.specs.declared.job.Job.{Job}
use Rattle.ledger.specs.declared.refusal.Refusal.{Refusal}
use Rattle.ledger.specs.Refusals.{refusal_number}
use Rattle.ledger.specs.Ledger.{Charges, Call, opening, booking, planning, running, refusal, ledger}
use Rattle.ledger.specs.Answers.{Answer, answer}

abbrev pub energies : Order
energies = order_of energy_laws

abbrev pub peaks : Order
peaks = order_of peak_laws

pub energy_bounded : (s : ℕ) → slice_index (1 ∷ 4 ∷ 0 ∷ 15 ∷ []) s ≤ largest_charge
energy_bounded zero = omega arith
energy_bounded (suc zero) = omega arith
energy_bounded (suc (suc zero)) = omega arith
energy_bounded (suc (suc (suc zero))) = omega arith
energy_bounded (suc (suc (suc (suc s)))) = omega arith

-- the energies, and the same at the prices 1, 1, 9, 9
abbrev pub table : Charges
table = record { charge = table_charge (1 ∷ 4 ∷ 0 ∷ 15 ∷ []); bounded = λ k s _ _. energy_bounded s }

abbrev pub priced_table : Charges
priced_table = record { charge = price_list_charge table.charge (1 ∷ 1 ∷ 9 ∷ 9 ∷ []); bounded = λ k s _ _. omega arith }

-- number, release, due slot, work
abbrev pub job : ℕ → ℕ → ℕ → ℕ → Job
job n r d w = record { number = n; release = r; due = d; left = w }

abbrev pub early_job : Call
early_job = booking (job 101 0 2 2)

abbrev pub late_job : Call
late_job = booking (job 102 1 4 3)

-- stay A without a job; with both; with one that spans it
abbrev pub bare : List Call
bare = opening 4 (0 ∷ 1 ∷ 3 ∷ []) ∷ []

abbrev pub both : List Call
both = late_job ∷ early_job ∷ bare

abbrev pub wide : List Call
wide = booking (job 103 0 4 2) ∷ bare

-- the longest stay, at speeds 0 and 15
abbrev pub long : List Call
long = opening 96 (0 ∷ 15 ∷ []) ∷ []

-- planning by energy, in memory that suffices
abbrev pub by_energy : Call
by_energy = planning table energies 1 24 12

-- the next n slots run
abbrev pub ran_on : ℕ → List Call → List Call
ran_on zero h = h
ran_on (suc n) h = running ∷ ran_on n h

-- stay A with both jobs, planned by energy, and n slots of it run
abbrev pub run : ℕ → List Call
run n = ran_on n (by_energy ∷ both)

-- the number of a refusal, 0 for none
abbrev pub number_of : Option Refusal → ℕ
number_of None = 0
number_of (Some r) = refusal_number r

-- how each of some calls is met, made next after h
abbrev pub met : List Call → List Call → List ℕ
met h [] = []
met h (c ∷ cs) = number_of (refusal (ledger h) c) ∷ met h cs

-- what call c is answered, made next after h
abbrev pub told : List Call → Call → Answer
told h c = answer (ledger h) c
