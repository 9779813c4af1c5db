use Rattle.measure.proofs.Sums.{energy_sum}
use Rattle.measure.proofs.energy.energy_is_the_sum.Goals as goal

pub returns : goal.returns
returns c = energy_sum
