use Rattle.std.proofs.Common.{◌≡◌, min, length, drop}
use Rattle.columns.specs.Lines.{lines}
use Rattle.columns.specs.Reading.{file_of, lines_given, lines_left}
use Rattle.columns.proofs.laws.answer_after.Given as goal

-- so many lines are off what is left, and so many were given, unless there were fewer
abbrev pub invariant-loop : goal.invariant-loop
invariant-loop l =
    record {
      file : file_of l.reader ≡ l.file;
      left : lines_left l.reader ≡ drop l.counter (lines l.file);
      given : lines_given l.reader ≡ min l.counter (length (lines l.file));
    }
