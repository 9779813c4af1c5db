use Rattle.std.proofs.Common.{not, eqb}
use Rattle.std.proofs.lemmas.List.Filters.{FiltersInPlace}
use Rattle.ledger.specs.declared.job.Job.{Job}
use Rattle.stay.proofs.pump.Table+Job.tidied.Given as goal

abbrev pub invariant-loop-job : goal.invariant-loop-job
invariant-loop-job l = FiltersInPlace (λ (j : Job). not (eqb j.left 0)) l.self.jobs l.jobs l.count l.job-index
