-- How a charge is read.
use Rattle.std.proofs.Common.{◌≡◌, ℕ, ◌≤◌, min, ap, ◌∙◌, arith}
use Rattle.tariff.specs.Charges.{as_read, last_slot, top_speed}

-- inside its bounds a charge is read as it is
pub read_inside : (charge : ℕ → ℕ → ℕ) (k s : ℕ) → k ≤ last_slot → s ≤ top_speed → as_read charge k s ≡ charge k s
read_inside charge k s h i =
    let a : min k last_slot ≡ k = omega arith in
    let b : min s top_speed ≡ s = omega arith in
    ap (λ (v : ℕ). charge v (min s top_speed)) a ∙ ap (charge k) b
