-- How large the parts of a cubic charge can be.
use Rattle.std.specs.Prelude.{ℕ, ◌*◌, ◌≤◌}
use Rattle.std.proofs.Common.{mul-le-mul}
use Rattle.tariff.specs.Bounds.{linear_bound, cube_bound}
use Rattle.tariff.specs.Charges.{top_speed}

pub linear_part : (linear s : ℕ) → linear ≤ linear_bound → s ≤ top_speed → linear * s ≤ 150000
linear_part linear s h i = mul-le-mul h i

pub cube_part : (cube s : ℕ) → cube ≤ cube_bound → s ≤ top_speed → cube * (s * s * s) ≤ 675000
cube_part cube s h i = mul-le-mul h (mul-le-mul (mul-le-mul i i) i)
