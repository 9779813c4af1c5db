use Rattle.columns.proofs.LineLaws.{last_newline}
use Rattle.columns.proofs.laws.last_newline_holds.Goals as goal

pub returns : goal.returns
returns c = last_newline
