-- What is left of a line behind fields of so many columns, taken off one after the other.
use Rattle.std.proofs.Common.{◌≡◌, ℕ, ◌+◌, ◌-◌, cond, leb, List, [], ◌∷◌, sum, Option, None, Some, sym, refl, ap, ◌∙◌, subst, arith, tests}
use Rattle.std.specs.ControlFlow.{continue_value}
use Rattle.std.specs.Fn.{Mut, Called}
use Rattle.std.specs.Iterator.{AlwaysYields, Yields, TryFoldTurn, TryFoldsItems}
use Rattle.std.specs.List.{FoldsTo}
use Rattle.std.specs.Option.{MatchOption}
use Rattle.std.proofs.lemmas.Iterator.{YieldsList}
use Rattle.std.proofs.lemmas.List.Sums.{sum_by-cons}

-- what is left of a once n is taken off, if there is as much
abbrev pub less : ℕ → ℕ → Option ℕ
less a n = cond (leb n a) (Some (a - n)) None

less_nought : (a : ℕ) → less a 0 ≡ Some a
less_nought a = grind (arith, tests)

less_more : (a n m : ℕ) → less a n ≡ None → less a (n + m) ≡ None
less_more a n m is = grind (arith, tests)

less_on : (a b n m : ℕ) → less a n ≡ Some b → less b m ≡ less a (n + m)
less_on a b n m is = grind (arith, tests)

module _ {S A F : Type 0} (E : Type 0) (steps : S → Option A → S → Type 0) (v : A → ℕ) (g : Mut F (ℕ × (A × Unit {0})) (Option ℕ)) (f : F)
    (calls : (a : ℕ) (x : A) (o : Option ℕ) (h : F) → Called g f (a, (x, tt)) o h → (h ≡ f) × (o ≡ less a (v x))) where
  folded : (xs : List A) (o : Option A) (ys : List ℕ) (s t u : S) (p j : F) (a b : ℕ) (r : Option ℕ) → p ≡ f → AlwaysYields steps v s ys → Yields steps s xs t → steps t o u
      → FoldsTo (TryFoldTurn {E = E} g (λ w c. w ≡ continue_value c)) (p, a) xs (j, b)
      → MatchOption o (r ≡ Some b) (λ x. (w : Option ℕ) × (h : F) × (n : E) × Called g j (b, (x, tt)) w h × (w ≡ None) × (r ≡ None))
      → r ≡ less a (sum ys)
  folded [] None [] s t u p j a b r same gives run last on is =
      is ∙ ap (λ (w : F × ℕ). Some w.1) (sym on) ∙ sym (less_nought a)
  folded [] None (y ∷ ys) s t u p j a b r same gives run last on is = absurd (gives.0 u (subst (λ (k : S). steps k None u) (sym run) last))
  folded [] (Some x) [] s t u p j a b r same gives run last on is = absurd (gives x u (subst (λ (k : S). steps k (Some x) u) (sym run) last))
  folded [] (Some x) (y ∷ ys) s t u p j a b r same gives run last on is =
      let first = gives.1 x u (subst (λ (k : S). steps k (Some x) u) (sym run) last) in
      let f_is : j ≡ f = sym (ap (λ (w : F × ℕ). w.0) on) ∙ same in
      let told = calls b x is.0 is.1 (subst (λ (w : F). Called g w (b, (x, tt)) is.0 is.1) f_is is.3) in
      let none : less a y ≡ None = ap (λ (k : ℕ). less k y) (ap (λ (w : F × ℕ). w.1) on) ∙ ap (less b) (sym first.0) ∙ sym told.1 ∙ is.4 in
      is.5 ∙ sym (less_more a y (sum ys) none) ∙ ap (less a) (sym (sum_by-cons (λ n. n) y ys))
  folded (x ∷ xs) o [] s t u p j a b r same gives run last on is = absurd (gives x run.0 run.1)
  folded (x ∷ xs) o (y ∷ ys) s t u p j a b r same gives run last on is =
      let first = gives.1 x run.0 run.1 in
      let told = calls a x on.1.0 on.0.0 (subst (λ (w : F). Called g w (a, (x, tt)) on.1.0 on.0.0) same on.1.1) in
      let some : less a y ≡ Some on.0.1 = ap (less a) (sym first.0) ∙ sym told.1 ∙ on.1.2 in
      folded xs o ys run.0 t u on.0.0 j on.0.1 b r told.0 first.1 run.2 last on.2 is ∙ less_on a on.0.1 y (sum ys) some ∙ ap (less a) (sym (sum_by-cons (λ n. n) y ys))

  pub left_from_yields : (s u : S) (all : List ℕ) (a : ℕ) (r : Option ℕ) → TryFoldsItems steps g (λ w c. w ≡ continue_value c) (λ (n : E) w. w ≡ None) s f a r u → YieldsList steps v s all → r ≡ less a (sum all)
  left_from_yields s u all a r d road = folded d.0 d.1 all s d.4.0 u f d.2 a d.3 r refl road.runs d.4.1 d.4.2 d.5 d.6
