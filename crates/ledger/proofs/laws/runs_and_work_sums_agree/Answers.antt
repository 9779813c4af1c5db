use Rattle.ledger.proofs.Promised.{runs_agree, in_line}
use Rattle.ledger.proofs.laws.runs_and_work_sums_agree.Goals as goal

pub returns : goal.returns
returns c = record { agree = runs_agree; always = in_line }
