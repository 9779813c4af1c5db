use Rattle.std.proofs.Common.{◌≡◌, ◌+◌, ◌*◌, ◌≤◌, drop}
use Rattle.ledger.specs.Queue.{arrived, owed}
use Rattle.stay.specs.Jobs.{queue_of}
use Rattle.stay.proofs.sums.Table+Job.work_sums.Given as goal

abbrev pub invariant-loop-job : goal.invariant-loop-job
invariant-loop-job l = (l.due + owed (drop l.job-index (queue_of l.self)) l.slot ≡ owed (queue_of l.self) l.slot)
    × (l.due ≤ l.job-index * 65535)
    × (l.arrived + arrived (drop l.job-index (queue_of l.self)) l.slot ≡ arrived (queue_of l.self) l.slot)
    × (l.arrived ≤ l.job-index * 65535)
