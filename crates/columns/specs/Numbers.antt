-- A number stands right-justified in its part of a page: its decimal digits end where the part ends, and the rest of
-- the part is blank. It fits if the part has a column for each digit.
use Rattle.std.specs.Prelude.{ℕ, ◌+◌, ◌-◌, Bool, cond, ◌&&◌, List, ◌++◌, length, take, drop, replicate, decimal, nat_le}
use Rattle.columns.specs.Fields.{blank}

-- digits behind blanks, in so many columns
abbrev pub padded : ℕ → List ℕ → List ℕ
padded width digits = replicate (width - length digits) blank ++ digits

-- the bytes of a number in so many columns
abbrev pub justified : ℕ → ℕ → List ℕ
justified width value = padded width (decimal value)

-- whether the number fits a part of so many columns, and the part, behind `at` bytes, is inside the page
abbrev pub fits : List ℕ → ℕ → ℕ → ℕ → Bool
fits page at width value = nat_le (length (decimal value)) width && nat_le (at + width) (length page)

-- the page with the number in that part; it stays as it was where the number does not fit
abbrev pub written : List ℕ → ℕ → ℕ → ℕ → List ℕ
written page at width value =
    cond (fits page at width value) (take at page ++ (justified width value ++ drop (at + width) page)) page
