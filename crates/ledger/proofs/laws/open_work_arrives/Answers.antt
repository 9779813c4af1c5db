use Rattle.ledger.specs.Ledger.{ledger}
use Rattle.ledger.proofs.Arrivals.{open_work_arrives}
use Rattle.ledger.proofs.Kept.{ledger_sound}
use Rattle.ledger.proofs.laws.open_work_arrives.Goals as goal

pub returns : goal.returns
returns c h = open_work_arrives (ledger h) (ledger_sound h)
