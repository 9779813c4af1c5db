use Rattle.ledger.proofs.Plans.{top_decides}
use Rattle.ledger.proofs.laws.top_speed_decides.Goals as goal

pub returns : goal.returns
returns c = top_decides
