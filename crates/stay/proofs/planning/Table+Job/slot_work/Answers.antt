use Rattle.std.proofs.Common.{rules}
use Rattle.stay.proofs.Ahead.{owed_within, arrived_within}
use Rattle.stay.proofs.planning.Table+Job.slot_work.Goals as goal

pub overflow_cast-result : goal.overflow_cast-result
overflow_cast-result c = search (rules, owed_within, arrived_within)

pub overflow_cast-result-2 : goal.overflow_cast-result-2
overflow_cast-result-2 c = search (rules, owed_within, arrived_within)
