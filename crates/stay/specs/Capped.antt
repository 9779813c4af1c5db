-- Words: capped, a number as a byte.
use Rattle.std.specs.Prelude.{ℕ, min}

-- a number as a byte: itself, or the largest byte where it does not fit
abbrev pub capped : ℕ → ℕ
capped s = min s 255
