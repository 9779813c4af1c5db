-- The rest of a planned list is planned.
use Rattle.std.proofs.Common.{◌≡◌, ℕ, zero, suc, ◌+◌, [], ◌∷◌, ◌++◌, length, sym, refl, ap, ◌∙◌, arith}
use Rattle.measure.specs.Kinds.{Kind}
use Rattle.recursion.specs.Staged.{Staged, choice_of, least, planned}
use Rattle.recursion.specs.Optimality.{state_after, RestIsPlanned}

planned_length : {M X : Type 0} (q : Kind M) (y : Staged X) (n k : ℕ) (x : X) → length (planned q y n k x) ≡ n
planned_length q y zero k x = refl
planned_length q y (suc n) k x = ap suc (planned_length q y n (suc k) (y.next k x (choice_of (least q y (suc n) k x))))

pub rest_planned : {M X : Type 0} (q : Kind M) (y : Staged X) (n k : ℕ) (x : X) → RestIsPlanned q y n k x
rest_planned q y n k x [] ds e =
    let size : n ≡ length ds = sym (planned_length q y n k x) ∙ ap length e in
    let here : k ≡ k + 0 = omega arith in
    sym e ∙ ap (λ (v : ℕ). planned q y v k x) size ∙ ap (λ (v : ℕ). planned q y (length ds) v x) here
rest_planned q y zero k x (c ∷ cs) ds e = absurd (omega (arith, ap length e))
rest_planned {X = X} q y (suc n) k x (c ∷ cs) ds e =
    let d = choice_of (least q y (suc n) k x) in
    let same : d ≡ c = cc in
    let rest : planned q y n (suc k) (y.next k x d) ≡ cs ++ ds = cc in
    let on : suc k + length cs ≡ k + suc (length cs) = omega arith in
    rest_planned q y n (suc k) (y.next k x d) cs ds rest
    ∙ ap (λ (v : ℕ). planned q y (length ds) (suc k + length cs) (state_after y (suc k) (y.next k x v) cs)) same
    ∙ ap (λ (v : ℕ). planned q y (length ds) v (state_after y (suc k) (y.next k x c) cs)) on
