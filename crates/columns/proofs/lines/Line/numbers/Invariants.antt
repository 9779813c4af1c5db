use Rattle.std.proofs.Common.{◌≡◌, ◌+◌, length, take, drop, sum}
use Rattle.columns.specs.Fields.{fields_from}
use Rattle.columns.proofs.FieldFacts.{behind}
use Rattle.columns.proofs.lines.Line.numbers.Given as goal

-- the numbers so far, before those of the widths that are left, are the answer; and the column is where those start
abbrev pub invariant-loop-i : goal.invariant-loop-i
invariant-loop-i g l =
    (behind (take l.i l.numbers) (fields_from l.self.number l.self.bytes.now l.column (drop l.i l.fn.widths))
    ≡ fields_from l.self.number l.self.bytes.now 1 l.fn.widths)
    × (l.column + sum (drop l.i l.fn.widths) ≡ 1 + sum l.fn.widths)
    × (length l.numbers ≡ length l.fn.widths)
