use Rattle.recursion.specs.Pumps.{decisions}
use Rattle.recursion.proofs.Ranked.{ranked}
use Rattle.recursion.proofs.Image.{order_planned}
use Rattle.recursion.proofs.Rest.{rest_planned}
use Rattle.recursion.proofs.Sequences.{pump_recursion, pump_optimal}
use Rattle.recursion.proofs.Alike.{same_plan}
use Rattle.recursion.proofs.laws.planned_speeds_are_best.Goals as goal

pub returns : goal.returns
returns g c = record {
  rule = pump_recursion (ranked g.M.Measure.laws);
  optimal = pump_optimal (ranked g.M.Measure.laws);
  order = λ y. order_planned g.M.Measure.laws (decisions y);
  rest = λ y. rest_planned g.M.Measure.kind (decisions y);
  alike = same_plan g.M.Measure.kind;
}
