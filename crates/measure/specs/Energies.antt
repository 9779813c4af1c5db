-- Words: energy as a kind of measure: charges add up, to a stop that no plan reaches.
use Rattle.std.specs.Prelude.{◌≡◌, ℕ, ◌+◌, ◌<◌, ◌≤◌, min, List, [], ◌∷◌, length, nat_le}
use Rattle.std.proofs.Common.{ap, subst, arith, leb-true, le-leb, leb-false}
use Rattle.std.proofs.Math.Bridge.{le_prop}
use Rattle.tariff.specs.Bounds.{EachWithin}
use Rattle.tariff.specs.Charges.{largest_charge}
use Rattle.measure.specs.Stops.{energy_stop}
use Rattle.measure.specs.Kinds.{Kind, Laws, measure_of}
use Rattle.measure.specs.declared.amounts.Energy.{Energy}

-- n, or the stop where that is less
abbrev pub stopped : ℕ → Energy
stopped n = record { value = min n energy_stop; stops = omega arith }

abbrev pub energy : Kind Energy
energy = record { nought = stopped 0; of = stopped; join = λ a b. stopped (a.value + b.value); not_above = λ a b. nat_le a.value b.value }

abbrev made : (v : ℕ) → v ≤ energy_stop → Energy
made v h = record { value = v; stops = h }

-- energies of one value are one
pub same_energy : (a b : Energy) → a.value ≡ b.value → a ≡ b
same_energy a b e =
    let P : ℕ → Type 0 = λ w. (h : w ≤ energy_stop) → made a.value a.stops ≡ made w h in
    subst P e (λ h. ap (made a.value) (le_prop a.stops h)) b.stops

pub energy_laws : Laws energy
energy_laws = record {
  total = λ a b h. le-leb _ _ (omega (arith, leb-false a.value b.value h));
  transitive = λ a b c h i. le-leb _ _ (omega (arith, leb-true a.value b.value h, leb-true b.value c.value i));
  antisymmetric = λ a b h i. same_energy _ _ (omega (arith, leb-true a.value b.value h, leb-true b.value a.value i));
  associative = λ a b c. same_energy _ _ (omega arith);
  neutral_left = λ a. same_energy _ _ (omega arith);
  neutral_right = λ a. same_energy _ _ (omega arith);
  monotone = λ a b c h. le-leb _ _ (omega (arith, leb-true a.value b.value h));
  faithful = λ m n h i. let p : min m energy_stop ≡ m = omega arith in let r : min n energy_stop ≡ n = omega arith in rw (p, r);
}

abbrev pub total : List ℕ → ℕ
total [] = 0
total (c ∷ cs) = c + total cs

-- the energy of up to 96 charges is their sum, which is below the stop
abbrev pub EnergyIsTheSum : Type 0
EnergyIsTheSum = (cs : List ℕ) → length cs ≤ 96 → EachWithin largest_charge cs → ((measure_of energy cs).value ≡ total cs) × (total cs < energy_stop)
