-- The plan over lists of charges, under the order that a measure puts on them, is the plan over the measure.
use Rattle.std.proofs.Common.{◌≡◌, ℕ, zero, suc, Bool, true, false, cond, List, [], ◌∷◌, sym, refl, ap, ◌∙◌, subst, inl, inr}
use mathlib.Core.Path.{fun_ext}
use Rattle.measure.specs.Kinds.{Kind, Laws, measure_of}
use Rattle.measure.specs.Orders.{charge_lists, not_above_by}
use Rattle.recursion.specs.Optimality.{ByOrderAlone, SameOrderSamePlan}
use Rattle.recursion.specs.Staged.{Staged, Best, none, best, choice_of, under, lower, lowest, ahead, least, attempt, planned, In}

pub lowest_same_in : {M : Type 0} (q : Kind M) (a : Best M) (f g : ℕ → Best M) (ss : List ℕ) → ((s : ℕ) → In s ss → f s ≡ g s) → lowest q a f ss ≡ lowest q a g ss
lowest_same_in q a f g [] h = refl
lowest_same_in q a f g (s ∷ ss) h = ap (λ b. lowest q (lower q a b) f ss) (h s (inl refl)) ∙ lowest_same_in q (lower q a (g s)) f g ss (λ t i. h t (inr i))

pub lowest_same : {M : Type 0} (q : Kind M) (a : Best M) (f g : ℕ → Best M) (ss : List ℕ) → ((s : ℕ) → f s ≡ g s) → lowest q a f ss ≡ lowest q a g ss
lowest_same q a f g ss h = lowest_same_in q a f g ss (λ s i. h s)

abbrev pub image : {X Y : Type 0} → (X → Y) → Best X → Best Y
image h none = none
image h (best s m) = best s (h m)

image_cond : {X Y : Type 0} (h : X → Y) (b : Bool) (x z : Best X) → image h (cond b x z) ≡ cond b (image h x) (image h z)
image_cond h true x z = refl
image_cond h false x z = refl

image_choice : {X Y : Type 0} (h : X → Y) (x : Best X) → choice_of (image h x) ≡ choice_of x
image_choice h none = refl
image_choice h (best s m) = refl

module _ {N : Type 0} {q : Kind N} (laws : Laws q) where
  under_image : (a b : Best (List ℕ)) → under (charge_lists (not_above_by q)) a b ≡ under q (image (measure_of q) a) (image (measure_of q) b)
  under_image none none = refl
  under_image none (best t n) = refl
  under_image (best s m) none = refl
  under_image (best s m) (best t n) = refl

  lower_image : (a b : Best (List ℕ)) → image (measure_of q) (lower (charge_lists (not_above_by q)) a b) ≡ lower q (image (measure_of q) a) (image (measure_of q) b)
  lower_image a b =
      image_cond (measure_of q) (under (charge_lists (not_above_by q)) a b) a b
      ∙ ap (λ v. cond v (image (measure_of q) a) (image (measure_of q) b)) (under_image a b)

  lowest_image : (a : Best (List ℕ)) (f : ℕ → Best (List ℕ)) (ss : List ℕ) → image (measure_of q) (lowest (charge_lists (not_above_by q)) a f ss) ≡ lowest q (image (measure_of q) a) (λ s. image (measure_of q) (f s)) ss
  lowest_image a f [] = refl
  lowest_image a f (s ∷ ss) =
      lowest_image (lower (charge_lists (not_above_by q)) a (f s)) f ss
      ∙ ap (λ v. lowest q v (λ t. image (measure_of q) (f t)) ss) (lower_image a (f s))

  ahead_image : (s c : ℕ) (x : Best (List ℕ)) → image (measure_of q) (ahead (charge_lists (not_above_by q)) s (c ∷ []) x) ≡ ahead q s (q.of c) (image (measure_of q) x)
  ahead_image s c none = refl
  ahead_image s c (best t m) = refl

  pub least_image : {X : Type 0} (y : Staged X) (n k : ℕ) (x : X) → image (measure_of q) (least (charge_lists (not_above_by q)) y n k x) ≡ least q y n k x
  least_image y zero k x = refl
  least_image y (suc n) k x =
      lowest_image none (attempt (charge_lists (not_above_by q)) y n k x) y.choices
      ∙ lowest_same q none (λ s. image (measure_of q) (attempt (charge_lists (not_above_by q)) y n k x s)) (attempt q y n k x) y.choices
      (λ s.
      let b = y.allowed k x s in
      let z = least (charge_lists (not_above_by q)) y n (suc k) (y.next k x s) in
      image_cond (measure_of q) b (ahead (charge_lists (not_above_by q)) s (y.charge k x s ∷ []) z) none
      ∙ ap (λ v. cond b v none) (ahead_image s (y.charge k x s) z ∙ ap (ahead q s (q.of (y.charge k x s))) (least_image y n (suc k) (y.next k x s))))

  choice_image : {X : Type 0} (y : Staged X) (n k : ℕ) (x : X) → choice_of (least (charge_lists (not_above_by q)) y n k x) ≡ choice_of (least q y n k x)
  choice_image y n k x = sym (image_choice (measure_of q) (least (charge_lists (not_above_by q)) y n k x)) ∙ ap choice_of (least_image y n k x)

  -- so the planned choices are named by the order on lists of charges alone
  pub planned_image : {X : Type 0} (y : Staged X) (n k : ℕ) (x : X) → planned (charge_lists (not_above_by q)) y n k x ≡ planned q y n k x
  planned_image y zero k x = refl
  planned_image y (suc n) k x =
      let P : ℕ → Type 0 = λ c. choice_of (least (charge_lists (not_above_by q)) y (suc n) k x) ∷ planned (charge_lists (not_above_by q)) y n (suc k) (y.next k x (choice_of (least (charge_lists (not_above_by q)) y (suc n) k x))) ≡ c ∷ planned q y n (suc k) (y.next k x c) in
      subst P (choice_image y (suc n) k x) (ap (λ v. choice_of (least (charge_lists (not_above_by q)) y (suc n) k x) ∷ v) (planned_image y n (suc k) (y.next k x (choice_of (least (charge_lists (not_above_by q)) y (suc n) k x)))))

  -- with the order in the place of the measure
  pub order_planned : {X : Type 0} (y : Staged X) (n k : ℕ) (x : X) → ByOrderAlone q y n k x
  order_planned y n k x o =
      let same : o.order.not_above ≡ not_above_by q = fun_ext (λ a. fun_ext (o.by_values a)) in
      ap (λ (f : List ℕ → List ℕ → Bool). planned (charge_lists f) y n k x) same ∙ planned_image y n k x

-- two measures with one order
pub same_order_planned : {M N X : Type 0} {p : Kind M} {q : Kind N} → Laws p → Laws q → (y : Staged X) (n k : ℕ) (x : X) → SameOrderSamePlan p q y n k x
same_order_planned {p = p} {q = q} ps qs y n k x alike =
    let same : not_above_by p ≡ not_above_by q = fun_ext (λ a. fun_ext (alike a)) in
    sym (planned_image ps y n k x) ∙ ap (λ (f : List ℕ → List ℕ → Bool). planned (charge_lists f) y n k x) same ∙ planned_image qs y n k x
