use Rattle.columns.proofs.NumberLaws.{reads_back}
use Rattle.columns.proofs.laws.written_reads_back_holds.Goals as goal

pub returns : goal.returns
returns c = reads_back
