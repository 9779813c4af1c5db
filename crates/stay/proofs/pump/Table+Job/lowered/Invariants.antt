use Rattle.std.proofs.Common.{◌≡◌, length}
use Rattle.ledger.specs.Queue.{pumped, units_pumped}
use Rattle.stay.specs.Jobs.{queue_of}
use Rattle.stay.proofs.Pumping.{Under}
use Rattle.stay.proofs.pump.Table+Job.lowered.Given as goal

abbrev pub invariant-loop-i : goal.invariant-loop-i
invariant-loop-i l = (length l.t.jobs ≡ 64) × (l.t.count ≡ l.initial.t.count)
    × Under l.slot l.speed (pumped l.slot l.speed (queue_of l.initial.t)) (units_pumped l.slot l.speed (queue_of l.initial.t)) (queue_of l.t) l.i l.rest
