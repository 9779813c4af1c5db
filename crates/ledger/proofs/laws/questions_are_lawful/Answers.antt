use Rattle.ledger.proofs.Asked.{asked_lawfully}
use Rattle.ledger.proofs.laws.questions_are_lawful.Goals as goal

pub returns : goal.returns
returns c = asked_lawfully
