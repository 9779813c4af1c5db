-- The energy of a list is its sum, the peak its largest.
use Rattle.std.proofs.Common.{◌≡◌, ℕ, zero, suc, ◌*◌, ◌≤◌, max, List, [], ◌∷◌, length, get_or, refl, ◌∙◌, ⊎_elim, arith}
use Rattle.std.proofs.lemmas.Bool.{cases_lt}
use Rattle.tariff.specs.Bounds.{EachWithin}
use Rattle.tariff.specs.Charges.{largest_charge}
use Rattle.measure.specs.Kinds.{measure_of}
use Rattle.measure.specs.Energies.{energy, total, EnergyIsTheSum}
use Rattle.measure.specs.Peaks.{peak, PeakIsTheLargest}

total_bound : (cs : List ℕ) → EachWithin largest_charge cs → total cs ≤ 1000000000 * length cs
total_bound [] h = omega arith
total_bound (c ∷ cs) h = omega (arith, h 0, total_bound cs (λ i. h (suc i)))

sum_is : (cs : List ℕ) → length cs ≤ 96 → EachWithin largest_charge cs → (measure_of energy cs).value ≡ total cs
sum_is [] few h = refl
sum_is (c ∷ cs) few h = omega (arith, sum_is cs (omega arith) (λ i. h (suc i)), h 0, total_bound cs (λ i. h (suc i)))

pub energy_sum : EnergyIsTheSum
energy_sum cs few h = (sum_is cs few h, omega (arith, total_bound cs h))

pub peak_largest : PeakIsTheLargest
peak_largest [] = record { above_each = λ i. omega arith; place = 0; one_of_them = refl }
peak_largest (c ∷ cs) =
    let rest = peak_largest cs in
    let v = (measure_of peak cs).value in
    ⊎_elim
    (λ lt. record { above_each = above c cs rest.above_each; place = suc rest.place; one_of_them = rest.one_of_them ∙ omega arith })
    (λ le. record { above_each = above c cs rest.above_each; place = 0; one_of_them = omega arith })
    (cases_lt c v)
  where
    above : (c : ℕ) (cs : List ℕ) → ((i : ℕ) → get_or cs i 0 ≤ (measure_of peak cs).value) → (i : ℕ) → get_or (c ∷ cs) i 0 ≤ max c (measure_of peak cs).value
    above c cs h zero = omega arith
    above c cs h (suc i) = omega (arith, h i)
