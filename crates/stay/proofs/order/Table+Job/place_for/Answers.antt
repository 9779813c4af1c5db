use Rattle.std.proofs.Common.{◌≡◌, ℕ, not, length, unwrap_or, sym, ap, ◌∙◌, arith, length-take-le, rules, tests}
use Rattle.std.proofs.lemmas.Iterator.{YieldsList-from_slice}
use Rattle.std.proofs.lemmas.Iterator.Search.{position_from_yields_List}
use Rattle.ledger.specs.declared.job.Job.{Job}
use Rattle.ledger.specs.Queue.{before}
use Rattle.stay.specs.Jobs.{queue_of}
use Rattle.stay.proofs.Entering.{with_job, first_or_end, enter_at}
use Rattle.stay.proofs.order.Table+Job.place_for.Goals as goal

pub returns-clause-place : goal.returns-clause-place
returns-clause-place c =
    let t = c.args.self.now in
    let j = c.args.job in
    let q = queue_of t in
    let p = λ (i : Job). not (before i j) in
    let n : length t.jobs ≡ 64 = search rules in
    let is = position_from_yields_List p _ _ c.position.result c.position.ensures.ran (YieldsList-from_slice q (cc)) (λ x b q k. search (rules, tests)) in
    enter_at j q ∙ ap (λ (k : ℕ). with_job k j q) (sym (c.unwrap_or.ensures ∙ ap (λ o. unwrap_or o t.count) is ∙ first_or_end p q t.count (length-take-le t.count t.jobs (omega arith))))
