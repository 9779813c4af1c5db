-- A reader stands at a place of a file: what comes before it was read, and what comes after it holds the lines left.
use Rattle.std.specs.Prelude.{ℕ, ◌+◌, List, drop}
use Rattle.std.specs.List.{enumerate_from}
use Rattle.columns.specs.Lines.{lines}
use Rattle.columns.specs.declared.lines.Line.{Line}
use Rattle.columns.specs.declared.lines.Reader.{Reader}

-- the bytes that it reads
abbrev pub file_of : Reader → List ℕ
file_of reader = reader.bytes.now

-- how many of them it has passed
abbrev pub place_of : Reader → ℕ
place_of reader = reader.place

-- how many lines it has given
abbrev pub lines_given : Reader → ℕ
lines_given reader = reader.given

-- the lines that it has still to give
abbrev pub lines_left : Reader → List (List ℕ)
lines_left reader = lines (drop (place_of reader) (file_of reader))

-- a line as its number and its bytes
abbrev pub numbered : Line → ℕ × List ℕ
numbered line = (line.number, line.bytes.now)

-- the same of the lines that it has still to give
abbrev pub numbered_left : Reader → List (ℕ × List ℕ)
numbered_left reader = enumerate_from (lines_given reader + 1) (lines_left reader)
