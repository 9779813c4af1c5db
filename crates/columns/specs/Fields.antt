-- A field is some columns of a line that hold one decimal number: blanks, and then at least one digit, up to the last
-- column. A 0 in front is a number only by itself. Anything else in the columns is no number.
-- A line is read by the widths of its fields, which stand side by side from its first column to its last.
use Rattle.std.specs.Prelude.{ℕ, ◌+◌, ◌-◌, ◌*◌, Bool, cond, not, ◌&&◌, ◌||◌, List, [], ◌∷◌, length, take, drop, Some, None, Ok, Err, sum, Option, Result, ◌==◌, nat_le, nat_lt, slice_index}
use Rattle.columns.specs.declared.faults.FieldFault.{FieldFault}
use Rattle.columns.specs.declared.faults.FieldFault.TheVariants.{NoNumber}
use Rattle.columns.specs.declared.faults.LineFault.{LineFault}
use Rattle.columns.specs.declared.faults.LineFault.TheVariants.{Length, Field}

abbrev pub blank : ℕ
blank = 32

-- the digits are the bytes 48, for 0, to 57
abbrev pub is_digit : ℕ → Bool
is_digit b = nat_le 48 b && nat_le b 57

-- what stands behind the blanks in front
abbrev pub after_blanks : List ℕ → List ℕ
after_blanks [] = []
after_blanks (b ∷ bs) = cond (b == blank) (after_blanks bs) (b ∷ bs)

-- the number that digits write behind those of `n`; no number where a byte is no digit
abbrev pub digits_behind : ℕ → List ℕ → Option ℕ
digits_behind n [] = Some n
digits_behind n (b ∷ bs) = cond (is_digit b) (digits_behind (n * 10 + (b - 48)) bs) None

-- at least one byte, and a 0 in front only if it is the only one
abbrev pub starts_well : List ℕ → Bool
starts_well text = nat_lt 0 (length text) && (not (slice_index text 0 == 48) || length text == 1)

-- a number with no needless 0 in front
abbrev pub numeral : List ℕ → Option ℕ
numeral text = cond (starts_well text) (digits_behind 0 text) None

-- the value of a field with these bytes
abbrev pub field_value : List ℕ → Option ℕ
field_value bytes = numeral (after_blanks bytes)

-- Columns count from 1. A field is read if all its columns are columns of the line, and it has at most nine.
abbrev pub can_hold : List ℕ → ℕ → ℕ → Bool
can_hold bytes column width = nat_le 1 column && nat_le (column + width) (length bytes + 1) && nat_le width 9

-- a number, or the fault with the line and the column where the field starts
abbrev pub or_no_number : ℕ → ℕ → Option ℕ → Result ℕ FieldFault
or_no_number line column (Some n) = Ok n
or_no_number line column None = Err (NoNumber line column)

-- the field that starts in a column of the line with this number and these bytes; one that is not read is no number
abbrev pub field_at : ℕ → List ℕ → ℕ → ℕ → Result ℕ FieldFault
field_at line bytes column width =
    or_no_number line column (cond (can_hold bytes column width) (field_value (take width (drop (column - 1) bytes))) None)

-- a number and those that follow it, or the first fault
abbrev pub followed_by : Result ℕ FieldFault → Result (List ℕ) FieldFault → Result (List ℕ) FieldFault
followed_by (Ok n) (Ok ns) = Ok (n ∷ ns)
followed_by (Ok n) (Err fault) = Err fault
followed_by (Err fault) others = Err fault

-- the numbers of fields side by side from a column on, or the first fault from the left
abbrev pub fields_from : ℕ → List ℕ → ℕ → List ℕ → Result (List ℕ) FieldFault
fields_from line bytes column [] = Ok []
fields_from line bytes column (width ∷ widths) =
    followed_by (field_at line bytes column width) (fields_from line bytes (column + width) widths)

-- the fault of a field inside that of its line
abbrev pub in_line : Result (List ℕ) FieldFault → Result (List ℕ) LineFault
in_line (Ok ns) = Ok ns
in_line (Err fault) = Err (Field fault)

-- the numbers of a line by the widths of its fields; a line that has not just these columns is refused before any field
abbrev pub line_fields : ℕ → List ℕ → List ℕ → Result (List ℕ) LineFault
line_fields line bytes widths =
    cond (sum widths == length bytes) (in_line (fields_from line bytes 1 widths)) (Err (Length line))
