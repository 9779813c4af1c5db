use Rattle.std.proofs.Common.{refl}
use Rattle.recursion.proofs.Ranked.{ranked}
use Rattle.recursion.proofs.Optimum.{recursion}
use Rattle.recursion.proofs.laws.decisions_follow_the_recursion.Goals as goal

pub returns : goal.returns
returns g c = record { end = λ y k x. refl; rule = recursion (ranked g.M.Measure.laws) }
