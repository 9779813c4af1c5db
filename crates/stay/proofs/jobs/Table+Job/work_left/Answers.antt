use Rattle.std.proofs.Common.{sym, refl, ◌∙◌, arith, length-take, rules}
use Rattle.std.proofs.lemmas.Iterator.{YieldsList-from_slice, YieldsList-from_map}
use Rattle.std.proofs.lemmas.Iterator.Consumers.{YieldsList-at, sum_from_yields_List}
use Rattle.std.proofs.lemmas.List.{length-map}
use Rattle.std.proofs.lemmas.List.Recursion.{is_sum_by}
use Rattle.std.proofs.lemmas.List.Sums.{sum-map}
use Rattle.ledger.specs.declared.job.Job.{Job}
use Rattle.ledger.specs.Queue.{work}
use Rattle.stay.specs.Jobs.{queue_of}
use Rattle.stay.proofs.Adding.{sum_fits}
use Rattle.stay.proofs.jobs.Table+Job.work_left.Goals as goal

pub sum-requires-clause-fits : goal.sum-requires-clause-fits
sum-requires-clause-fits c =
    let t = c.args.self.now in
    let few = length-take t.count t.jobs in
    sum_fits _ 65535 (λ s x t k. search rules) c.map.result _ 64
    (YieldsList-from_map _ (λ (j : Job). j.left) (YieldsList-at c.map.ensures.source (YieldsList-from_slice (queue_of t) (cc))) c.map.ensures.closure (λ x r q k. search rules))
    (omega (arith, length-map (queue_of t) (λ (j : Job). j.left))) _ (omega arith)

pub returns : goal.returns
returns c =
    let q = queue_of c.args.self.now in
    sum_from_yields_List _ c.sum.result c.sum.ensures.ran
    (YieldsList-from_map _ (λ (j : Job). j.left) (YieldsList-at c.map.ensures.source (YieldsList-from_slice q (cc))) c.map.ensures.closure (λ x r q k. search rules))
    ∙ sum-map (λ (j : Job). j.left) q ∙ sym (is_sum_by work (λ j. j.left) refl (λ _ _. refl) q)
