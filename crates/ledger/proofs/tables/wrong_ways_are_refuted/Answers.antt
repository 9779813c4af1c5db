use Rattle.ledger.proofs.Refuted.{refuted}
use Rattle.ledger.proofs.tables.wrong_ways_are_refuted.Goals as goal

pub returns : goal.returns
returns c = refuted
