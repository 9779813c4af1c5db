-- Nesting, job by job.
use Rattle.std.proofs.Common.{◌≡◌, ℕ, ◌||◌, List, [], ◌∷◌, refl, ap, ◌∙◌}
use Rattle.std.specs.List.{list_any}
use Rattle.std.proofs.Math.Bool.{or_assoc}
use Rattle.ledger.specs.declared.job.Job.{Job}
use Rattle.ledger.specs.Queue.{inside}
use Rattle.ledger.specs.Ledger.{nested}

pub any_nested : (k : ℕ) (j : Job) (q : List Job) → list_any (λ i. inside k j i || inside k i j) q ≡ nested k j q
any_nested k j [] = refl
any_nested k j (i ∷ q) = or_assoc (inside k j i) (inside k i j) (list_any (λ x. inside k j x || inside k x j) q) ∙ ap (λ v. inside k j i || (inside k i j || v)) (any_nested k j q)
