-- Words: last slot, top speed, largest charge, as read.
-- Slots go from 0 to 95 and speeds from 0 to 15.
use Rattle.std.specs.Prelude.{ℕ, min}

abbrev pub last_slot : ℕ
last_slot = 95

abbrev pub top_speed : ℕ
top_speed = 15

-- no slot is charged more
abbrev pub largest_charge : ℕ
largest_charge = 1000000000

-- a charge as it is asked for: slot and speed are brought into their ranges first
abbrev pub as_read : (ℕ → ℕ → ℕ) → ℕ → ℕ → ℕ
as_read charge slot speed = charge (min slot last_slot) (min speed top_speed)
