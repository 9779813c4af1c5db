use Rattle.std.proofs.Common.{refl}
use Rattle.measure.specs.Orders.{order_of}
use Rattle.measure.proofs.measures_order_charges.Goals as goal

pub returns : goal.returns
returns g c = record { order = order_of g.M.Measure.laws; by_values = λ a b. refl }
