use Rattle.columns.proofs.LineLaws.{lines_together, lines_clean}
use Rattle.columns.proofs.laws.bytes_in_one_line_holds.Goals as goal

pub returns : goal.returns
returns c = λ file. (lines_together file, lines_clean file)
