-- Words: within a bound, the bounds of what a tariff is made from, what each tariff charges in slot k at speed s.
use Rattle.std.specs.Prelude.{ℕ, ◌+◌, ◌*◌, ◌≤◌, min, Bool, List, nat_le, slice_index}
use Rattle.std.specs.List.{list_all}
use Rattle.tariff.specs.Charges.{largest_charge}

-- watt-hours of one slot at one speed
abbrev pub energy_bound : ℕ
energy_bound = 1000000

abbrev pub base_bound : ℕ
base_bound = 100000

abbrev pub linear_bound : ℕ
linear_bound = 10000

abbrev pub cube_bound : ℕ
cube_bound = 200

abbrev pub price_bound : ℕ
price_bound = 1000

-- no number of the list passes the bound
abbrev pub all_within : ℕ → List ℕ → Bool
all_within bound xs = list_all (λ x. nat_le x bound) xs

-- the same, number by number
abbrev pub EachWithin : ℕ → List ℕ → Type 0
EachWithin bound xs = (i : ℕ) → slice_index xs i ≤ bound

-- the three coefficients keep their bounds
abbrev pub CoefficientsWithin : ℕ → ℕ → ℕ → Type 0
CoefficientsWithin base linear cube = (base ≤ base_bound) × (linear ≤ linear_bound) × (cube ≤ cube_bound)

-- the energy table: the energy of the speed, whatever the slot
abbrev pub table_charge : List ℕ → ℕ → ℕ → ℕ
table_charge energies k s = slice_index energies s

-- the cubic drive, whatever the slot
abbrev pub cubic_charge : ℕ → ℕ → ℕ → ℕ → ℕ
cubic_charge base linear cube s = base + linear * s + cube * (s * s * s)

-- an amount at a price, up to the largest charge
abbrev pub priced : ℕ → ℕ → ℕ
priced amount price = min (amount * price) largest_charge

-- the price list: what is charged below, at the price of the slot
abbrev pub price_list_charge : (ℕ → ℕ → ℕ) → List ℕ → ℕ → ℕ → ℕ
price_list_charge below prices k s = priced (below k s) (slice_index prices k)
