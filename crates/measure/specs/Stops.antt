-- Words: the stop of energy.
use Rattle.std.specs.Prelude.{ℕ}

-- where adding energies stops
abbrev pub energy_stop : ℕ
energy_stop = 1000000000000
