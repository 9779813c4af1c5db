-- The number of a fault, and a fault with its line.
use Rattle.std.specs.Prelude.{ℕ, Ok, Err, Result}
use Rattle.columns.specs.declared.faults.FieldFault.{FieldFault}
use Rattle.columns.specs.declared.faults.FieldFault.TheVariants.{NoNumber}
use Rattle.columns.specs.declared.faults.LineFault.{LineFault}
use Rattle.columns.specs.declared.faults.LineFault.TheVariants.{Length, Field}
use Rattle.columns.specs.declared.faults.OnLine.{OnLine}
use Rattle.columns.specs.declared.faults.FileFault.{FileFault}
use Rattle.columns.specs.declared.faults.FileFault.TheVariants.{Line, Content}

-- the numbers: 18 for a line of the wrong length, 19 for a field that is no number
abbrev pub number_of_line : LineFault → ℕ
number_of_line (Length line) = 18
number_of_line (Field (NoNumber line column)) = 19

-- a field's fault has the number that it has inside its line's
abbrev pub number_of_field : FieldFault → ℕ
number_of_field fault = number_of_line (Field fault)

-- a file's fault has the number of the fault inside it, where `content` numbers the faults of what lines say
abbrev pub number_of_file : {C : Type 0} → (C → ℕ) → FileFault C → ℕ
number_of_file content (Line fault) = number_of_line fault
number_of_file content (Content line fault) = content fault

-- the same answer, where a fault comes with its line
abbrev pub on_line : {V C : Type 0} → ℕ → Result V C → Result V (OnLine C)
on_line line (Ok value) = Ok value
on_line line (Err fault) = Err (record { line = line; fault = fault })
