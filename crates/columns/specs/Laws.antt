-- Laws over the definitions of lines, fields and numbers, in words that do not speak of how they are found.
use Rattle.std.specs.Prelude.{◌≡◌, ℕ, ◌+◌, ◌^◌, ◌<◌, ◌≤◌, Bool, true, false, cond, List, [], ◌∷◌, ◌++◌, length, take, is_ok, Some, Ok, Err, decimal, sum, Result, ◌==◌, ◌≢◌, slice_index, slice_index_or}
use Rattle.columns.specs.declared.faults.FieldFault.{FieldFault}
use Rattle.columns.specs.declared.faults.LineFault.TheVariants.{Length, Field}
use Rattle.columns.specs.Lines.{newline, lines}
use Rattle.columns.specs.Fields.{field_value, field_at, line_fields}
use Rattle.columns.specs.Numbers.{justified, written}

-- lines with a newline between each two
abbrev pub joined : List (List ℕ) → List ℕ
joined [] = []
joined (l ∷ []) = l
joined (l ∷ (m ∷ ms)) = l ++ (newline ∷ joined (m ∷ ms))

abbrev pub ends_in_newline : List ℕ → Bool
ends_in_newline [] = false
ends_in_newline (b ∷ []) = b == newline
ends_in_newline (b ∷ (c ∷ cs)) = ends_in_newline (c ∷ cs)

-- The lines of a file joined by newlines are the file, but for one last newline where the file ends in one.
abbrev pub LinesJoin : Type 0
LinesJoin = (file : List ℕ) → joined (lines file) ++ cond (ends_in_newline file) (newline ∷ []) [] ≡ file

-- A file that ends in another byte than a newline has the same lines with one newline added at its end.
abbrev pub LastNewlineIsFree : Type 0
LastNewlineIsFree = (file : List ℕ) → 0 < length file → ends_in_newline file ≡ false → lines (file ++ (newline ∷ [])) ≡ lines file

-- the bytes of all lines, one after another
abbrev pub together : List (List ℕ) → List ℕ
together [] = []
together (l ∷ ls) = l ++ together ls

abbrev pub without_newlines : List ℕ → List ℕ
without_newlines [] = []
without_newlines (b ∷ bs) = cond (b == newline) (without_newlines bs) (b ∷ without_newlines bs)

-- Every byte that is no newline is in exactly one line: the lines' bytes, in order, are those bytes of the file, and no
-- line holds a newline.
abbrev pub BytesInOneLine : Type 0
BytesInOneLine =
    (file : List ℕ)
    → (together (lines file) ≡ without_newlines file)
    × ((k i : ℕ) → i < length (slice_index_or (lines file) k []) → slice_index (slice_index_or (lines file) k []) i ≢ newline)

-- the field of a line that has so many others of the widths on its left
abbrev pub field_of : ℕ → List ℕ → List ℕ → ℕ → Result ℕ FieldFault
field_of line bytes widths k = field_at line bytes (1 + sum (take k widths)) (slice_index widths k)

-- A line with other columns than its fields is refused for its length. A line that is taken answers each field's number,
-- in order. A line that is refused for a field has numbers in all fields on the left of that one.
abbrev pub FieldsInOrder : Type 0
FieldsInOrder =
    (line : ℕ) (bytes widths : List ℕ)
    → ((sum widths ≢ length bytes) → line_fields line bytes widths ≡ Err (Length line))
    × ((numbers : List ℕ) → line_fields line bytes widths ≡ Ok numbers
    → (length numbers ≡ length widths) × ((k : ℕ) → k < length widths → field_of line bytes widths k ≡ Ok (slice_index numbers k)))
    × ((fault : FieldFault) → line_fields line bytes widths ≡ Err (Field fault)
    → (k : ℕ) × ((k < length widths) × (field_of line bytes widths k ≡ Err fault) × ((j : ℕ) → j < k → is_ok (field_of line bytes widths j) ≡ true)))

-- A number that fits is read back from the columns that it was written into. The bytes of the part are as many as its
-- columns, their value is the number, and so is the field of the page that was written, where fields can be that wide.
abbrev pub WrittenReadsBack : Type 0
WrittenReadsBack =
    (width value : ℕ) → value < 2 ^ 64 → length (decimal value) ≤ width
    → (length (justified width value) ≡ width)
    × (field_value (justified width value) ≡ Some value)
    × ((line : ℕ) (page : List ℕ) (at : ℕ) → at + width ≤ length page → width ≤ 9 → field_at line (written page at width value) (at + 1) width ≡ Ok value)

-- Nothing else is read: a field with a value holds just the bytes that the value is written as.
abbrev pub OnlyWrittenReads : Type 0
OnlyWrittenReads = (bytes : List ℕ) (value : ℕ) → value < 2 ^ 64 → field_value bytes ≡ Some value → justified (length bytes) value ≡ bytes
