use Rattle.std.proofs.Common.{◌≡◌, ℕ, not, eqb, filter, length, take, ap, ◌∙◌, arith, length-take, rules}
use Rattle.ledger.specs.declared.job.Job.{Job}
use Rattle.stay.specs.Jobs.{queue_of}
use Rattle.stay.proofs.Pumping.{filter_unfinished}
use Rattle.stay.proofs.pump.Table+Job.tidied.Goals as goal

pub returns-clause-queue : goal.returns-clause-queue
returns-clause-queue c =
    let t = c.args.self.now in
    let few = length-take t.count t.jobs in
    let n : length t.jobs ≡ 64 = search rules in
    let len = ap length c.open-job-items.ensures in
    let end : c.loop-job.job-index ≡ t.count = omega arith in
    c.loop-job.invariant.front ∙ ap (λ (k : ℕ). filter (λ (j : Job). not (eqb j.left 0)) (take k t.jobs)) end ∙ filter_unfinished (queue_of t)
