-- Lowering a row by one speed after another, from the last to the first.
use Rattle.std.proofs.Common.{◌≡◌, ℕ, ◌+◌, ◌-◌, ◌<◌, ◌≤◌, min, max, Bool, true, false, leb, ◌≢◌, List, [], ◌∷◌, length, get_or, drop, set, sym, refl, ap, ◌∙◌, subst, ⊎_elim, arith}
use borrow.Author.Tests.{clash}
use Rattle.std.proofs.lemmas.List.{at_drop_more, get_or_read, get_or-set_same, get_or-set_other}
use Rattle.std.proofs.lemmas.Bool.{cases_Bool, cases_lt, cond-true, cond-false, le-leb, lt-leb}
use Rattle.measure.specs.Kinds.{Kind}
use Rattle.recursion.specs.Staged.{Best, none, best, under, lower, lowest}
use Rattle.recursion.specs.Rows.{offer, tried, best_tried, Lowered, Picked}
use Rattle.recursion.proofs.Ranked.{Ranked}
use Rattle.recursion.proofs.Optimum.{under_trans, under_total}

lower_none : {M : Type 0} (q : Kind M) (b : Best M) → lower q none b ≡ b
lower_none q none = refl
lower_none q (best s m) = refl

none_lower : {M : Type 0} (q : Kind M) (a : Best M) → lower q a none ≡ a
none_lower q none = refl
none_lower q (best s m) = refl

-- a speed's offer, where it does enough
pub offer_enough : {M : Type 0} (q : Kind M) (m : M) (arrived need : ℕ) (next : List M) (s e f : ℕ) → f ≡ min (e + s) arrived → need ≤ f → offer q m arrived need next s e ≡ best s (q.join m (get_or next f q.nought))
offer_enough q m arrived need next s e f is h =
    let g = min (e + s) arrived in
    cond-true (leb need g) (best s (q.join m (get_or next g q.nought))) none (le-leb need g (omega arith)) ∙ ap (λ (v : ℕ). best s (q.join m (get_or next v q.nought))) (sym is)

-- a row that was not lowered yet
pub lowered_none : {M : Type 0} (q : Kind M) (f : ℕ → Best M) (from : ℕ) (picks : List ℕ) (row : List M) → Lowered q f from from picks row picks row
lowered_none q f from picks row = record { inside = λ e h i. absurd (omega arith); below = λ e h. refl; above = λ e h. refl }

-- a place that is not lowered, since what it holds is below what is offered
lowered_keep : {M : Type 0} (q : Kind M) (f : ℕ → Best M) (from i s : ℕ) (m : M) (picks : List ℕ) (row : List M) (picks' : List ℕ) (row' : List M) → from ≤ i → f i ≡ best s m → q.not_above m (get_or row' i q.nought) ≡ false → Lowered q f from i picks row picks' row' → Lowered q f from (i + 1) picks row picks' row'
lowered_keep {M} q f from i s m picks row picks' row' start is over inv = record {
  inside = λ e h k. ⊎_elim
      (λ lt. inv.inside e h lt)
      (λ ge.
      let same : i ≡ e = omega arith in
      let old = best (get_or picks' i 0) (get_or row' i q.nought) in
      let P : ℕ → Type 0 = λ v. best (get_or picks' v 0) (get_or row' v q.nought) ≡ lower q (f v) (best (get_or picks v 0) (get_or row v q.nought)) in
      subst P same (sym (ap (λ (b : Best M). lower q b (best (get_or picks i 0) (get_or row i q.nought))) is ∙ ap (lower q (best s m)) (sym (inv.above i (omega arith))) ∙ cond-false (q.not_above m (get_or row' i q.nought)) (best s m) old over)))
      (cases_lt e i);
  below = inv.below;
  above = λ e h. inv.above e (omega arith);
}

-- a place that is lowered
lowered_set : {M : Type 0} (q : Kind M) (f : ℕ → Best M) (from i s : ℕ) (m : M) (picks : List ℕ) (row : List M) (picks' : List ℕ) (row' : List M) → from ≤ i → i < length picks' → i < length row' → f i ≡ best s m → q.not_above m (get_or row' i q.nought) ≡ true → Lowered q f from i picks row picks' row' → Lowered q f from (i + 1) picks row (set picks' i s) (set row' i m)
lowered_set {M} q f from i s m picks row picks' row' start ip ir is under inv =
    let other : (e : ℕ) → e ≢ i → best (get_or (set picks' i s) e 0) (get_or (set row' i m) e q.nought) ≡ best (get_or picks' e 0) (get_or row' e q.nought) =
    λ e ne. ap (λ (v : ℕ). best v (get_or (set row' i m) e q.nought)) (get_or-set_other picks' i e s 0 ne) ∙ ap (best (get_or picks' e 0)) (get_or-set_other row' i e m q.nought ne) in
    let here : best (get_or (set picks' i s) i 0) (get_or (set row' i m) i q.nought) ≡ best s m =
    ap (λ (v : ℕ). best v (get_or (set row' i m) i q.nought)) (get_or-set_same picks' i s 0 ip) ∙ ap (best s) (get_or-set_same row' i m q.nought ir) in
    record {
      inside = λ e h k. ⊎_elim
          (λ lt. let ne : e ≢ i = omega arith in other e ne ∙ inv.inside e h lt)
          (λ ge.
          let same : i ≡ e = omega arith in
          let old = best (get_or picks' i 0) (get_or row' i q.nought) in
          let P : ℕ → Type 0 = λ v. best (get_or (set picks' i s) v 0) (get_or (set row' i m) v q.nought) ≡ lower q (f v) (best (get_or picks v 0) (get_or row v q.nought)) in
          subst P same (here ∙ sym (ap (λ (b : Best M). lower q b (best (get_or picks i 0) (get_or row i q.nought))) is ∙ ap (lower q (best s m)) (sym (inv.above i (omega arith))) ∙ cond-true (q.not_above m (get_or row' i q.nought)) (best s m) old under)))
          (cases_lt e i);
      below = λ e h. let ne : e ≢ i = omega arith in other e ne ∙ inv.below e h;
      above = λ e h. let ne : e ≢ i = omega arith in other e ne ∙ inv.above e (omega arith);
    }

-- a row lowered by one speed: not where it does less than is needed, in full, and from where it does all that has arrived
pub lowered_row : {M : Type 0} (q : Kind M) (m all : M) (low high arrived need s from mid : ℕ) (next r₀ r₁ r₂ : List M) (p₀ p₁ p₂ : List ℕ) → need ≤ arrived → from ≡ min (max (need - s) low) (high + 1) → mid ≡ min (max (arrived + 1 - s) from) (high + 1) → all ≡ q.join m (get_or next arrived q.nought) →
    Lowered q (λ e. best s (q.join m (get_or next (e + s) q.nought))) from mid p₀ r₀ p₁ r₁ → Lowered q (λ e. best s all) mid (high + 1) p₁ r₁ p₂ r₂ →
    (e : ℕ) → low ≤ e → e ≤ high → best (get_or p₂ e 0) (get_or r₂ e q.nought) ≡ lower q (offer q m arrived need next s e) (best (get_or p₀ e 0) (get_or r₀ e q.nought))
lowered_row {M} q m all low high arrived need s from mid next r₀ r₁ r₂ p₀ p₁ p₂ near from_is mid_is all_is a b e lo hi =
    let held = best (get_or p₀ e 0) (get_or r₀ e q.nought) in
    let f = min (e + s) arrived in
    let some = best s (q.join m (get_or next f q.nought)) in
    ⊎_elim
    (λ short. b.below e (omega arith) ∙ a.below e short ∙ sym (ap (λ (x : Best M). lower q x held) (cond-false (leb need f) some none (lt-leb need f (omega arith))) ∙ lower_none q held))
    (λ does. ⊎_elim
    (λ full. b.below e full ∙ a.inside e does full ∙ ap (λ (x : Best M). lower q x held) (sym (offer_enough q m arrived need next s e (e + s) (omega arith) (omega arith))))
    (λ done. b.inside e done (omega arith) ∙ ap (lower q (best s all)) (a.above e done) ∙ ap (λ (x : Best M). lower q x held) (ap (best s) all_is ∙ sym (offer_enough q m arrived need next s e arrived (omega arith) near)))
    (cases_lt e mid))
    (cases_lt e from)

-- one place more, by the test that the code makes
pub lowered_turn : {M : Type 0} (q : Kind M) (f : ℕ → Best M) (from i s : ℕ) (m x : M) (b : Bool) (picks : List ℕ) (row : List M) (picks' : List ℕ) (row' : List M) → from ≤ i → i < length picks' → i < length row' → f i ≡ best s m → x ≡ get_or row' i x → b ≡ q.not_above m x → Lowered q f from i picks row picks' row' →
    (b ≡ true → Lowered q f from (i + 1) picks row (set picks' i s) (set row' i m)) × (b ≡ false → Lowered q f from (i + 1) picks row picks' row')
lowered_turn q f from i s m x b picks row picks' row' start ip ir is read test inv =
    let same : q.not_above m (get_or row' i q.nought) ≡ b = ap (q.not_above m) (sym (get_or_read row' i x ir read q.nought)) ∙ sym test in (
      λ t. lowered_set q f from i s m picks row picks' row' start ip ir is (same ∙ t) inv,
      λ t. lowered_keep q f from i s m picks row picks' row' start is (same ∙ t) inv,
    )

module _ {M : Type 0} {q : Kind M} (laws : Ranked q) where
  -- the order in which the lower of two is taken does not matter
  lower_assoc : (a b c : Best M) → lower q (lower q a b) c ≡ lower q a (lower q b c)
  lower_assoc a b c =
      let u = under q a b in
      let v = under q b c in
      let w = under q a c in
      ⊎_elim
      (λ (ab : u ≡ true).
      ap (λ (x : Best M). lower q x c) (cond-true u a b ab)
      ∙ ⊎_elim
      (λ (bc : v ≡ true). cond-true w a c (under_trans laws a b c ab bc) ∙ sym (ap (lower q a) (cond-true v b c bc) ∙ cond-true u a b ab))
      (λ (bc : v ≡ false). sym (ap (lower q a) (cond-false v b c bc)))
      (cases_Bool v))
      (λ (ab : u ≡ false).
      ap (λ (x : Best M). lower q x c) (cond-false u a b ab)
      ∙ ⊎_elim
      (λ (bc : v ≡ true). cond-true v b c bc ∙ sym (ap (lower q a) (cond-true v b c bc) ∙ cond-false u a b ab))
      (λ (bc : v ≡ false).
      cond-false v b c bc
      ∙ sym (ap (lower q a) (cond-false v b c bc)
      ∙ ⊎_elim
      (λ (ac : w ≡ true). absurd (clash (sym ab ∙ under_trans laws a c b ac (under_total laws b c bc))))
      (λ (ac : w ≡ false). cond-false w a c ac)
      (cases_Bool w)))
      (cases_Bool v))
      (cases_Bool u)

  lowest_from : (a : Best M) (f : ℕ → Best M) (ss : List ℕ) → lowest q a f ss ≡ lower q a (lowest q none f ss)
  lowest_from a f [] = sym (none_lower q a)
  lowest_from a f (s ∷ ss) =
      lowest_from (lower q a (f s)) f ss
      ∙ lower_assoc a (f s) (lowest q none f ss)
      ∙ ap (lower q a) (sym (lowest_from (lower q none (f s)) f ss ∙ ap (λ (x : Best M). lower q x (lowest q none f ss)) (lower_none q (f s))))

  -- the best of a list is the lower of its first and the best of the rest
  lowest_front : (f : ℕ → Best M) (s : ℕ) (ss : List ℕ) → lowest q none f (s ∷ ss) ≡ lower q (f s) (lowest q none f ss)
  lowest_front f s ss = lowest_from (lower q none (f s)) f ss ∙ ap (λ (x : Best M). lower q x (lowest q none f ss)) (lower_none q (f s))

  module _ (charge : ℕ → ℕ) (arrived need : ℕ) (next : List M) (ss : List ℕ) where
    at_front : (e i : ℕ) → i < length ss → best_tried q charge arrived need next (drop i ss) e ≡ lower q (tried q charge arrived need next e (get_or ss i 0)) (best_tried q charge arrived need next (drop (i + 1) ss) e)
    at_front e i h =
        at_drop_more (λ l. best_tried q charge arrived need next l e) ss i 0 h ∙ lowest_front (tried q charge arrived need next e) (get_or ss i 0) (drop (i + 1) ss)

    -- a row lowered by the speed before
    pub picked_before : (s i l : ℕ) (m : M) (low high : ℕ) (p₀ p₁ : List ℕ) (r₀ r₁ : List M) → l ≡ i + 1 → l ≤ length ss → s ≡ get_or ss i 0 → m ≡ q.of (charge s) →
        Picked q charge arrived need next (drop l ss) low high r₀ p₀ →
        ((e : ℕ) → low ≤ e → e ≤ high → best (get_or p₁ e 0) (get_or r₁ e q.nought) ≡ lower q (offer q m arrived need next s e) (best (get_or p₀ e 0) (get_or r₀ e q.nought))) →
        Picked q charge arrived need next (drop i ss) low high r₁ p₁
    picked_before s i l m low high p₀ p₁ r₀ r₁ on within is measure before lowered e lo hi =
        lowered e lo hi
        ∙ ap (λ (v : M). lower q (offer q v arrived need next s e) (best (get_or p₀ e 0) (get_or r₀ e q.nought))) measure
        ∙ ap (λ (v : ℕ). lower q (tried q charge arrived need next e v) (best (get_or p₀ e 0) (get_or r₀ e q.nought))) is
        ∙ ap (lower q (tried q charge arrived need next e (get_or ss i 0))) (before e lo hi ∙ ap (λ (v : ℕ). best_tried q charge arrived need next (drop v ss) e) on)
        ∙ sym (at_front e i (omega arith))
