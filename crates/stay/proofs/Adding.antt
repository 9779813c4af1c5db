-- Sums of numbers, as a chain adds them up.
use Rattle.std.proofs.Common.{◌≡◌, ℕ, suc, ◌+◌, ◌*◌, ◌<◌, ◌≤◌, List, [], ◌∷◌, length, Some, Option, ap, subst, arith, mul-le-mul_right, length-take}
use Rattle.std.specs.Iterator.{Yields}
use Rattle.std.specs.Iterator.Runs.{EachRunFrom}
use Rattle.std.specs.List.{fold}
use Rattle.std.proofs.iter.runs.Made.{took}
use Rattle.std.proofs.lemmas.Iterator.{YieldsList}
use Rattle.std.proofs.lemmas.Iterator.Consumers.{YieldsList-so_far}
use Rattle.std.proofs.lemmas.List.{length-map}

-- steps that give numbers of at most m
module _ {S : Type 0} (steps : S → Option ℕ → S → Type 0) (m : ℕ) (small : (s : S) (x : ℕ) (t : S) → steps s (Some x) t → x ≤ m) where
  added : (xs : List ℕ) (s t : S) → Yields steps s xs t → (n : ℕ) → fold (λ a x. a + x) n xs ≤ n + length xs * m
  added [] s t y n = omega arith
  added (x ∷ xs) s t y n =
      let e : suc (length xs) * m ≡ m + length xs * m = omega arith in
      omega (arith, small s x y.0 y.1, added xs y.0 t y.2 (n + x))

  -- there are at most n in all
  module _ (s : S) (all : List ℕ) (n : ℕ) (road : YieldsList steps (λ x. x) s all) (few : length all ≤ n) where
    within : (xs : List ℕ) (t : S) → Yields steps s xs t → fold (λ a x. a + x) 0 xs ≤ n * m
    within xs t y =
        let le : length xs ≤ n = omega (arith, ap length (YieldsList-so_far road xs t y), length-map {A = ℕ} {B = ℕ}, length-take {A = ℕ}) in
        omega (arith, added xs s t y 0, mul-le-mul_right m le)

    pub sum_fits : (top : ℕ) → n * m < top → EachRunFrom steps s (λ p. fold (λ a x. a + x) 0 p.items < top)
    sum_fits top low p _ is =
        let y = took p in
        omega (arith, within p.items y.0 (subst (λ (v : S). Yields steps v p.items y.0) is y.1))
