use Rattle.recursion.proofs.Image.{same_order_planned}
use Rattle.recursion.proofs.laws.same_order_same_plan.Goals as goal

pub returns : goal.returns
returns g c = same_order_planned g.M.Measure.laws g.K.Measure.laws
