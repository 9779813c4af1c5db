use Rattle.std.proofs.Common.{◌∙◌, arith, length-set}
use Rattle.ledger.specs.Queue.{lower, pumped, units_pumped}
use Rattle.stay.specs.Jobs.{blank, queue_of}
use Rattle.stay.proofs.Pumping.{lowered_place}
use Rattle.stay.proofs.pump.Table+Job.lowered.Goals as goal

pub loop-i-preserved : goal.loop-i-preserved
loop-i-preserved c =
    let t = c.loop-i.t in
    let k = c.args.slot in
    let s = c.args.speed in
    let q = queue_of c.args.self.now in
    let inv = c.loop-i.invariant in
    let x = c.job_mut.result.now in
    let by = c.share_of-by.result in
    let i = c.loop-i.i in (
      length-set t.jobs i (lower by x) ∙ inv.0,
      inv.1,
      lowered_place k s (pumped k s q) (units_pumped k s q) t.jobs t.count i c.loop-i.rest x by (omega arith) (omega arith) (c.job_mut.ensures.value blank) c.share_of-by.ensures inv.2,
    )
