-- Words: the charges of a tariff.
use Rattle.std.specs.Prelude.{ℕ, ◌≤◌}
use Rattle.tariff.specs.Charges.{last_slot, top_speed, largest_charge}
use Rattle.ledger.specs.Ledger.{Charges}

-- what the tariff t means, for tariffs of a type that tells its charges and keeps their bound
abbrev pub charges_by : {X : Type 0} (charge : X → ℕ → ℕ → ℕ) → ((t : X) (k s : ℕ) → k ≤ last_slot → s ≤ top_speed → charge t k s ≤ largest_charge) → X → Charges
charges_by charge bounded t = record { charge = charge t; bounded = bounded t }
