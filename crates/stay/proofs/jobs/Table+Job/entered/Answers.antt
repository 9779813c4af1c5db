use Rattle.std.proofs.Common.{◌≡◌, ◌+◌, List, length, take, set, sym, ap, ◌∙◌, arith, rules}
use Rattle.ledger.specs.declared.job.Job.{Job}
use Rattle.stay.proofs.Entering.{entered_array}
use Rattle.stay.proofs.jobs.Table+Job.entered.Goals as goal

pub returns-clause-queue : goal.returns-clause-queue
returns-clause-queue c =
    let t = c.args.self.now in
    let p = c.place_for-place.result in
    let n : length t.jobs ≡ 64 = search rules in
    ap (λ (js : List Job). take (t.count + 1) (set js p c.args.job)) c.copy_within.ensures.after
    ∙ entered_array t.jobs p t.count c.args.job c.place_for-place.ensures.within (omega arith) ∙ sym c.place_for-place.ensures.place
