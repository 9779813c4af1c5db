use Rattle.recursion.proofs.Ranked.{ranked}
use Rattle.recursion.proofs.Optimum.{optimal}
use Rattle.recursion.proofs.Image.{order_planned}
use Rattle.recursion.proofs.Rest.{rest_planned}
use Rattle.recursion.proofs.laws.planned_choices_are_best.Goals as goal

pub returns : goal.returns
returns g c = record {
  optimal = optimal (ranked g.M.Measure.laws);
  order = order_planned g.M.Measure.laws;
  rest = rest_planned g.M.Measure.kind;
}
