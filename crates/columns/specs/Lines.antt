-- The lines of a list of bytes: each newline ends a line, and bytes after the last newline are a line too.
-- A newline is no part of its line. Two newlines in a row have an empty line between them. No bytes have no line.
use Rattle.std.specs.Prelude.{ℕ, cond, List, [], ◌∷◌, ◌==◌}

abbrev pub newline : ℕ
newline = 10

-- a byte put in front of the first line; where there is no line, the byte is one
abbrev pub in_front : ℕ → List (List ℕ) → List (List ℕ)
in_front b [] = (b ∷ []) ∷ []
in_front b (l ∷ ls) = (b ∷ l) ∷ ls

-- the lines, in order
abbrev pub lines : List ℕ → List (List ℕ)
lines [] = []
lines (b ∷ bs) = cond (b == newline) ([] ∷ lines bs) (in_front b (lines bs))

-- the bytes up to the first newline, or all of them where there is none
abbrev pub first_line : List ℕ → List ℕ
first_line [] = []
first_line (b ∷ bs) = cond (b == newline) [] (b ∷ first_line bs)
