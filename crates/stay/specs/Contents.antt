-- Words: contents, the ledger that a stay holds.
use Rattle.ledger.specs.Ledger.{Ledger}
use Rattle.stay.specs.declared.stay.Stay.{Stay}
use Rattle.stay.specs.Image.{image}

abbrev pub contents : Stay → Ledger
contents s = image s.slots s.speeds s.clock s.table s.plan
