use Rattle.measure.proofs.Sums.{peak_largest}
use Rattle.measure.proofs.peak.peak_is_the_largest.Goals as goal

pub returns : goal.returns
returns c = peak_largest
