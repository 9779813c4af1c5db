use Rattle.columns.proofs.NumberLaws.{only_written}
use Rattle.columns.proofs.laws.only_written_reads_holds.Goals as goal

pub returns : goal.returns
returns c = only_written
