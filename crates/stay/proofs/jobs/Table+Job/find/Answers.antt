use Rattle.std.proofs.Common.{eqb, sym, subst, rules, tests}
use Rattle.std.proofs.lemmas.Iterator.{YieldsList-from_slice}
use Rattle.std.proofs.lemmas.Iterator.Search.{position_from_yields_List}
use Rattle.ledger.specs.declared.job.Job.{Job}
use Rattle.stay.specs.Jobs.{queue_of, PlaceOf}
use Rattle.stay.proofs.Striking.{place_of, is_found}
use Rattle.stay.proofs.jobs.Table+Job.find.Goals as goal

pub returns : goal.returns
returns c =
    let n = c.args.number in
    let q = queue_of c.args.self.now in
    let is = position_from_yields_List (λ (j : Job). eqb j.number n) _ _ c.position.result c.position.ensures.ran (YieldsList-from_slice q (cc)) (λ x b q k. search (rules, tests)) in
    let at = subst (PlaceOf n q) (sym is) (place_of n q) in
    record { found = is_found n q c.position.result at; place = at }
