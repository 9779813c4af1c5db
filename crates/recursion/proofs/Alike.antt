-- Pumps that agree on their slots left plan alike.
use Rattle.std.proofs.Common.{◌≡◌, ℕ, zero, suc, ◌+◌, min, cond, leb, List, ◌∷◌, refl, ap, ◌∙◌}
use Rattle.measure.specs.Kinds.{Kind}
use Rattle.recursion.specs.Staged.{Best, none, choice_of, lowest, ahead, least, attempt, planned}
use Rattle.recursion.specs.Pumps.{Pump, work_after, decisions, SameSlots, SamePlan}
use Rattle.recursion.proofs.Image.{lowest_same}

module _ {M : Type 0} (q : Kind M) (y z : Pump) (speeds : y.speeds ≡ z.speeds) where
  least_same : (n k e : ℕ) → SameSlots y z n k → least q (decisions y) n k e ≡ least q (decisions z) n k e
  least_same zero k e same = refl
  least_same (suc n) k e same =
      lowest_same q none (attempt q (decisions y) n k e) (attempt q (decisions z) n k e) y.speeds
      (λ s.
      let f = work_after z k e s in
      let there : work_after y k e s ≡ f = ap (min (e + s)) same.0 in
      ap (λ (v : ℕ). cond (leb (y.due (suc k)) v) (ahead q s (q.of (y.charge k s)) (least q (decisions y) n (suc k) v)) none) there
      ∙ ap (λ (b : Best M). cond (leb (y.due (suc k)) f) (ahead q s (q.of (y.charge k s)) b) none) (least_same n (suc k) f same.3)
      ∙ ap (λ (d : ℕ). cond (leb d f) (ahead q s (q.of (y.charge k s)) (least q (decisions z) n (suc k) f)) none) same.1
      ∙ ap (λ (c : ℕ). cond (leb (z.due (suc k)) f) (ahead q s (q.of c) (least q (decisions z) n (suc k) f)) none) (same.2 s))
      ∙ ap (lowest q none (attempt q (decisions z) n k e)) speeds

  planned_same : (n k e : ℕ) → SameSlots y z n k → planned q (decisions y) n k e ≡ planned q (decisions z) n k e
  planned_same zero k e same = refl
  planned_same (suc n) k e same =
      let c = choice_of (least q (decisions y) (suc n) k e) in
      let chosen : c ≡ choice_of (least q (decisions z) (suc n) k e) = ap choice_of (least_same (suc n) k e same) in
      let there : work_after y k e c ≡ work_after z k e c = ap (min (e + c)) same.0 in
      ap (λ (v : ℕ). c ∷ planned q (decisions y) n (suc k) v) there
      ∙ ap (λ (l : List ℕ). c ∷ l) (planned_same n (suc k) (work_after z k e c) same.3)
      ∙ ap (λ (v : ℕ). v ∷ planned q (decisions z) n (suc k) (work_after z k e v)) chosen

pub same_plan : {M : Type 0} (q : Kind M) (y z : Pump) (n k e : ℕ) → y.speeds ≡ z.speeds → SameSlots y z n k → SamePlan q y z n k e
same_plan q y z n k e speeds same = record { least = least_same q y z speeds n k e same; planned = planned_same q y z speeds n k e same }
