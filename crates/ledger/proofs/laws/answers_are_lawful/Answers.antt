use Rattle.ledger.proofs.Promised.{promised}
use Rattle.ledger.proofs.laws.answers_are_lawful.Goals as goal

pub returns : goal.returns
returns c h d = (promised h d).answer_is_lawful
