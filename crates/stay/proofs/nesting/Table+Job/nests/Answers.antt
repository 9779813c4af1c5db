use Rattle.std.proofs.Common.{◌||◌, ◌∙◌, rules, tests}
use Rattle.std.proofs.lemmas.Iterator.{YieldsList-from_slice}
use Rattle.std.proofs.lemmas.Iterator.Search.{any_from_yields_List}
use Rattle.ledger.specs.declared.job.Job.{Job}
use Rattle.ledger.specs.Queue.{inside}
use Rattle.stay.specs.Jobs.{queue_of}
use Rattle.stay.proofs.Inside.{any_nested}
use Rattle.stay.proofs.nesting.Table+Job.nests.Goals as goal

pub returns : goal.returns
returns c =
    let j = c.args.job in
    let k = c.args.clock in
    let q = queue_of c.args.self.now in
    any_from_yields_List (λ (i : Job). inside k j i || inside k i j) _ _ c.any.result c.any.ensures.ran (YieldsList-from_slice q (cc)) (λ x b q k. search (rules, tests)) ∙ any_nested k j q
