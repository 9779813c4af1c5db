use Rattle.ledger.proofs.Promised.{promised}
use Rattle.ledger.proofs.laws.promise_holds.Goals as goal

pub returns : goal.returns
returns c = promised
