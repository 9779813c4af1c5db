use Rattle.std.proofs.Common.{◌≡◌, length, ap, arith, length-take-le, rules}
use Rattle.ledger.specs.Queue.{pumped, finished, unfinished}
use Rattle.stay.specs.Jobs.{queue_of}
use Rattle.stay.proofs.Pumping.{open_and_finished}
use Rattle.stay.proofs.pump.Table+Job.pump.Goals as goal

pub returns-clause-finished : goal.returns-clause-finished
returns-clause-finished c =
    let low = c.lowered-low.result.table in
    let t = c.tidied-tidy.result in
    let n : length low.jobs ≡ 64 = search rules in
    let m : length t.jobs ≡ 64 = search rules in
    let all = length-take-le low.count low.jobs (omega arith) in
    let some = length-take-le t.count t.jobs (omega arith) in
    let both = open_and_finished (queue_of low) in
    let is : length (queue_of t) ≡ length (unfinished (queue_of low)) = ap length c.tidied-tidy.ensures.queue in
    let gone : finished (queue_of low) ≡ finished (pumped c.args.slot c.args.speed (queue_of c.args.self.now)) = ap finished c.lowered-low.ensures.queue in
    omega arith
