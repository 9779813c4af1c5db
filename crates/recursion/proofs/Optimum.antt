-- What is least is at most what any allowed list measures, and the planned list attains it.
use Rattle.std.proofs.Common.{◌≡◌, ℕ, zero, suc, ◌≤◌, true, false, ◌⊎◌, List, [], ◌∷◌, sym, refl, ap, ◌∙◌, subst, inl, inr, ⊎_elim, arith}
use borrow.Author.Tests.{clash}
use Rattle.std.proofs.lemmas.Bool.{cases_Bool, cond-true, cond-false}
use Rattle.measure.specs.Kinds.{Kind}
use Rattle.recursion.specs.Staged.{Staged, Best, none, best, choice_of, under, lower, lowest, ahead, least, attempt, planned, In, Allowed, measured, Rising}
use Rattle.recursion.specs.Optimality.{IsLeast, Fit, Recursion, Optimal}
use Rattle.recursion.proofs.Ranked.{Ranked}

pub none_best : {M : Type 0} (t : ℕ) (n : M) → none ≡ best t n → ⊥
none_best t n e = cc

module _ {M : Type 0} {q : Kind M} (laws : Ranked q) where
  within_refl : (a : M) → q.not_above a a ≡ true
  within_refl a = ⊎_elim (λ e. e) (laws.total a a) (cases_Bool (q.not_above a a))

  under_refl : (a : Best M) → under q a a ≡ true
  under_refl none = refl
  under_refl (best s m) = within_refl m

  pub under_trans : (a b c : Best M) → under q a b ≡ true → under q b c ≡ true → under q a c ≡ true
  under_trans none none none h i = refl
  under_trans none none (best t n) h i = i
  under_trans none (best s m) none h i = refl
  under_trans none (best s m) (best t n) h i = h
  under_trans (best s m) none none h i = refl
  under_trans (best s m) none (best t n) h i = absurd (clash i)
  under_trans (best s m) (best t n) none h i = refl
  under_trans (best s m) (best t n) (best u o) h i = laws.transitive m n o h i

  pub under_total : (a b : Best M) → under q a b ≡ false → under q b a ≡ true
  under_total none none h = refl
  under_total none (best t n) h = refl
  under_total (best s m) none h = absurd (clash (sym h))
  under_total (best s m) (best t n) h = laws.total m n h

  lower_left : (a b : Best M) → under q (lower q a b) a ≡ true
  lower_left a b =
      ⊎_elim
      (λ t. rw (cond-true (under q a b) a b t) (under_refl a))
      (λ f. rw (cond-false (under q a b) a b f) (under_total a b f))
      (cases_Bool (under q a b))

  lower_right : (a b : Best M) → under q (lower q a b) b ≡ true
  lower_right a b =
      ⊎_elim
      (λ t. rw (cond-true (under q a b) a b t) t)
      (λ f. rw (cond-false (under q a b) a b f) (under_refl b))
      (cases_Bool (under q a b))

  lowest_first : (a : Best M) (f : ℕ → Best M) (ss : List ℕ) → under q (lowest q a f ss) a ≡ true
  lowest_first a f [] = under_refl a
  lowest_first a f (s ∷ ss) = under_trans (lowest q (lower q a (f s)) f ss) (lower q a (f s)) a (lowest_first (lower q a (f s)) f ss) (lower_left a (f s))

  lowest_each : (a : Best M) (f : ℕ → Best M) (ss : List ℕ) (s : ℕ) → In s ss → under q (lowest q a f ss) (f s) ≡ true
  lowest_each a f [] s h = absurd h
  lowest_each a f (t ∷ ss) s (inl e) =
      subst (λ (v : ℕ). under q (lowest q (lower q a (f t)) f ss) (f v) ≡ true) (sym e)
      (under_trans (lowest q (lower q a (f t)) f ss) (lower q a (f t)) (f t) (lowest_first (lower q a (f t)) f ss) (lower_right a (f t)))
  lowest_each a f (t ∷ ss) s (inr h) = lowest_each (lower q a (f t)) f ss s h

  lower_either : (a b : Best M) → (lower q a b ≡ a) ⊎ (lower q a b ≡ b)
  lower_either a b =
      ⊎_elim
      (λ t. inl (cond-true (under q a b) a b t))
      (λ f. inr (cond-false (under q a b) a b f))
      (cases_Bool (under q a b))

  lowest_among : (a : Best M) (f : ℕ → Best M) (ss : List ℕ) → (lowest q a f ss ≡ a) ⊎ ((s : ℕ) × In s ss × (lowest q a f ss ≡ f s))
  lowest_among a f [] = inl refl
  lowest_among a f (t ∷ ss) =
      ⊎_elim
      (λ e. ⊎_elim (λ l. inl (e ∙ l)) (λ r. inr (t, inl refl, e ∙ r)) (lower_either a (f t)))
      (λ w. inr (w.0, inr w.1, w.2))
      (lowest_among (lower q a (f t)) f ss)

  ahead_mono : (s : ℕ) (c : M) (x : Best M) (m : M) → under q x (best 0 m) ≡ true → under q (ahead q s c x) (best 0 (q.join c m)) ≡ true
  ahead_mono s c none m h = h
  ahead_mono s c (best t n) m h = laws.monotone n m c h

  nothing_below : {X : Type 0} (y : Staged X) (n k : ℕ) (x : X) (cs : List ℕ) → Allowed y n k x cs → under q (least q y n k x) (best 0 (measured q y k x cs)) ≡ true
  nothing_below y zero k x [] h = within_refl q.nought
  nothing_below y zero k x (c ∷ cs) h = absurd h
  nothing_below y (suc n) k x [] h = absurd h
  nothing_below y (suc n) k x (c ∷ cs) (listed, fits, rest) =
      let m = q.of (y.charge k x c) in
      let v = y.next k x c in
      let z = least q y n (suc k) v in
      let fit = cond-true (y.allowed k x c) (ahead q c m z) none fits in
      let tried = ahead_mono c m z (measured q y (suc k) v cs) (nothing_below y n (suc k) v cs rest) in
      under_trans (least q y (suc n) k x) (attempt q y n k x c) (best 0 (q.join m (measured q y (suc k) v cs)))
      (lowest_each none (attempt q y n k x) y.choices c listed)
      (subst (λ (b : Best M). under q b (best 0 (q.join m (measured q y (suc k) v cs))) ≡ true) (sym fit) tried)

  ahead_found : {X : Type 0} (y : Staged X) (n k : ℕ) (x : X) (c v : ℕ) (m : M) (z : Best M) → In c y.choices → y.allowed k x c ≡ true → least q y n (suc k) (y.next k x c) ≡ z → ahead q c (q.of (y.charge k x c)) z ≡ best v m → (c ≡ v) × Fit q y n k x c m
  ahead_found y n k x c v m none listed fits after h = cc
  ahead_found y n k x c v m (best t o) listed fits after h =
      (cc, record { listed = listed; allowed = fits; onward = t; rest = o; after = after; sum = cc })

  attempt_found : {X : Type 0} (y : Staged X) (n k : ℕ) (x : X) (c v : ℕ) (m : M) → In c y.choices → attempt q y n k x c ≡ best v m → (c ≡ v) × Fit q y n k x c m
  attempt_found y n k x c v m listed h =
      let z = ahead q c (q.of (y.charge k x c)) (least q y n (suc k) (y.next k x c)) in
      let b = y.allowed k x c in
      ⊎_elim
      (λ t. ahead_found y n k x c v m (least q y n (suc k) (y.next k x c)) listed t refl (sym (cond-true b z none t) ∙ h))
      (λ f. absurd (none_best v m (sym (cond-false b z none f) ∙ h)))
      (cases_Bool b)

  found : {X : Type 0} (y : Staged X) (n k : ℕ) (x : X) (v : ℕ) (m : M) → least q y (suc n) k x ≡ best v m → Fit q y n k x v m
  found y n k x v m h =
      ⊎_elim
      (λ e₀. absurd (none_best v m (sym e₀ ∙ h)))
      (λ w. let p = attempt_found y n k x w.0 v m w.1 (sym w.2 ∙ h) in subst (λ (s : ℕ). Fit q y n k x s m) p.0 p.1)
      (lowest_among none (attempt q y n k x) y.choices)

  attains : {X : Type 0} (y : Staged X) (n k : ℕ) (x : X) (c : ℕ) (m : M) → least q y n k x ≡ best c m → Allowed y n k x (planned q y n k x) × (measured q y k x (planned q y n k x) ≡ m)
  attains y zero k x c m h = (tt, cc)
  attains y (suc n) k x c m h =
      let w = found y n k x c m h in
      let ih = attains y n (suc k) (y.next k x c) w.onward w.rest w.after in
      let choice : c ≡ choice_of (least q y (suc n) k x) = ap choice_of (sym h) in
      let P : ℕ → Type 0 = λ v. Allowed y (suc n) k x (v ∷ planned q y n (suc k) (y.next k x v)) × (measured q y k x (v ∷ planned q y n (suc k) (y.next k x v)) ≡ m) in
      subst P choice ((w.listed, w.allowed, ih.0), ap (q.join (q.of (y.charge k x c))) ih.1 ∙ w.sum)

  -- what is not above something is something
  least_is : (b : Best M) (d : ℕ) (m : M) → under q b (best d m) ≡ true → (c : ℕ) × (o : M) × (b ≡ best c o)
  least_is none d m h = absurd (clash h)
  least_is (best c o) d m h = (c, o, refl)

  pub optimal : {X : Type 0} (y : Staged X) (n k : ℕ) (x : X) → Optimal q y n k x
  optimal y n k x = record {
    none_below = λ c m h cs a. subst (λ (b : Best M). under q b (best 0 (measured q y k x cs)) ≡ true) h (nothing_below y n k x cs a);
    reached = attains y n k x;
    exists = λ cs a. least_is (least q y n k x) 0 (measured q y k x cs) (nothing_below y n k x cs a);
  }

  strict : (a b r : Best M) → under q b a ≡ true → under q b r ≡ false → under q a r ≡ false
  strict a b r h f = ⊎_elim (λ t. absurd (clash (sym f ∙ under_trans b a r h t))) (λ e. e) (cases_Bool (under q a r))

  -- the first of the lowest, in a rising list, is the lowest of them
  lowest_first_choice : (a : Best M) (f : ℕ → Best M) (ss : List ℕ) → Rising ss → (lowest q a f ss ≡ a) ⊎ ((s : ℕ) × In s ss × (lowest q a f ss ≡ f s) × (under q a (lowest q a f ss) ≡ false) × ((t : ℕ) → In t ss → under q (f t) (lowest q a f ss) ≡ true → s ≤ t))
  lowest_first_choice a f [] rising = inl refl
  lowest_first_choice a f (x ∷ ss) (low, rising) =
      let b = lower q a (f x) in
      let r = lowest q b f ss in
      ⊎_elim
      (λ e. ⊎_elim
      (λ t. inl (e ∙ cond-true (under q a (f x)) a (f x) t))
      (λ n.
      let same : r ≡ f x = e ∙ cond-false (under q a (f x)) a (f x) n in
      inr (x, inl refl, same, subst (λ (v : Best M). under q a v ≡ false) (sym same) n, λ t h _. ⊎_elim (λ i. omega arith) (λ i. omega (arith, low t i)) h))
      (cases_Bool (under q a (f x))))
      (λ w. inr (
        w.0,
        inr w.1,
        w.2,
        strict a b r (lower_left a (f x)) w.3,
        λ t h u. ⊎_elim
            (λ i. absurd (clash (sym w.3 ∙ under_trans b (f x) r (lower_right a (f x)) (subst (λ (v : ℕ). under q (f v) r ≡ true) i u))))
            (λ i. w.4 t i u)
            h,
      ))
      (lowest_first_choice b f ss rising)

  lowest_choice : {X : Type 0} (y : Staged X) (n k : ℕ) (x : X) → Rising y.choices → (c : ℕ) (m : M) → IsLeast q y (suc n) k x c m → (d : ℕ) → In d y.choices → under q (attempt q y n k x d) (best c m) ≡ true → c ≤ d
  lowest_choice y n k x rising c m h d listed u =
      ⊎_elim
      (λ e₀. absurd (none_best c m (sym e₀ ∙ h)))
      (λ w.
      let same = (attempt_found y n k x w.0 c m w.1 (sym w.2 ∙ h)).0 in
      let le = w.4 d listed (subst (λ (v : Best M). under q (attempt q y n k x d) v ≡ true) (sym h) u) in
      omega arith)
      (lowest_first_choice none (attempt q y n k x) y.choices rising)

  fit_attempt : {X : Type 0} (y : Staged X) (n k : ℕ) (x : X) (d : ℕ) (o : M) → Fit q y n k x d o → attempt q y n k x d ≡ best d o
  fit_attempt y n k x d o w =
      let m = q.of (y.charge k x d) in
      cond-true (y.allowed k x d) (ahead q d m (least q y n (suc k) (y.next k x d))) none w.allowed ∙ ap (ahead q d m) w.after ∙ ap (best d) w.sum

  under_fit : {X : Type 0} (y : Staged X) (n k : ℕ) (x : X) (d : ℕ) (o : M) → Fit q y n k x d o → under q (least q y (suc n) k x) (best d o) ≡ true
  under_fit y n k x d o w =
      subst (λ (b : Best M). under q (least q y (suc n) k x) b ≡ true) (fit_attempt y n k x d o w) (lowest_each none (attempt q y n k x) y.choices d w.listed)

  pub recursion : {X : Type 0} (y : Staged X) (n k : ℕ) (x : X) → Recursion q y n k x
  recursion y n k x = record {
    reached = found y n k x;
    exists = λ d o w. least_is (least q y (suc n) k x) d o (under_fit y n k x d o w);
    none_below = λ c m h d o w. subst (λ (b : Best M). under q b (best d o) ≡ true) h (under_fit y n k x d o w);
    lowest_choice = λ rising c m h d w. lowest_choice y n k x rising c m h d w.listed (subst (λ (b : Best M). under q b (best c m) ≡ true) (sym (fit_attempt y n k x d m w)) (within_refl m));
  }
