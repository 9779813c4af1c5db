-- How large the charge of each tariff can be: never above the largest charge.
use Rattle.std.specs.Prelude.{ℕ, ◌*◌, ◌≤◌, List, slice_index, refl}
use Rattle.std.proofs.Common.{le_trans, add-le-add}
use Rattle.std.proofs.Math.Nat.{min-le_right}
use Rattle.std.proofs.lemmas.Bool.{leb-true}
use Rattle.tariff.specs.Bounds.{EachWithin, CoefficientsWithin, energy_bound, cubic_charge, priced}
use Rattle.tariff.specs.Charges.{top_speed, largest_charge}
use Rattle.tariff.specs.Cubic.{linear_part, cube_part}

pub table_within : (energies : List ℕ) (s : ℕ) → EachWithin energy_bound energies → slice_index energies s ≤ largest_charge
table_within energies s h = le_trans (h s) (leb-true 1000000 1000000000 refl)

pub drive_within : (base linear cube s : ℕ) → CoefficientsWithin base linear cube → s ≤ top_speed → cubic_charge base linear cube s ≤ largest_charge
drive_within base linear cube s h i =
    le_trans (add-le-add (add-le-add h.0 (linear_part linear s h.1 i)) (cube_part cube s h.2 i)) (leb-true 925000 1000000000 refl)

pub priced_within : (amount price : ℕ) → priced amount price ≤ largest_charge
priced_within amount price = min-le_right (amount * price) 1000000000
