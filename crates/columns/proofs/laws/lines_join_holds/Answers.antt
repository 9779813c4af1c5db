use Rattle.columns.proofs.LineLaws.{lines_join}
use Rattle.columns.proofs.laws.lines_join_holds.Goals as goal

pub returns : goal.returns
returns c = lines_join
