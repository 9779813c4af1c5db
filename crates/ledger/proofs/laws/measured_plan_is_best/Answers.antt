use Rattle.ledger.specs.Ledger.{ledger}
use Rattle.ledger.proofs.Kept.{ledger_sound}
use Rattle.ledger.proofs.Promised.{measured_plan}
use Rattle.ledger.proofs.laws.measured_plan_is_best.Goals as goal

pub returns : goal.returns
returns g c h t = measured_plan g.M.Measure.laws (ledger h) t (ledger_sound h)
