-- Lists of speeds as bytes.
use Rattle.std.proofs.Common.{◌≡◌, ℕ, zero, suc, ◌<◌, ◌⊎◌, true, false, List, [], ◌∷◌, map, get_or, refl, ap, ap₂, sym, ◌∙◌, inl, inr, ⊎_elim, arith}
use Rattle.std.proofs.lemmas.Bool.{false_from_ne_true, cases_lt}
use Rattle.recursion.specs.Speeds.{lawful_speeds}
use Rattle.recursion.proofs.Rising.{lawful_gives, each_low}
use Rattle.stay.specs.Capped.{capped}

-- each number fits a byte, or one does not
fits_or_not : (xs : List ℕ) → (map capped xs ≡ xs) ⊎ ((i : ℕ) × (255 < get_or xs i 0))
fits_or_not [] = inl refl
fits_or_not (x ∷ xs) = ⊎_elim
    (λ lt. ⊎_elim (λ e. inl (let c : capped x ≡ x = omega arith in ap₂ (λ (y : ℕ) (ys : List ℕ). y ∷ ys) c e)) (λ w. inr (suc w.0, w.1)) (fits_or_not xs))
    (λ ge. inr (0, omega arith))
    (cases_lt x 256)

capped_at : (xs : List ℕ) (i : ℕ) → get_or (map capped xs) i 0 ≡ capped (get_or xs i 0)
capped_at [] i = refl
capped_at (x ∷ xs) zero = refl
capped_at (x ∷ xs) (suc i) = capped_at xs i

-- a list with a number above 15 is not lawful
too_high : (xs : List ℕ) (i : ℕ) → 15 < get_or xs i 0 → lawful_speeds xs ≡ false
too_high xs i h = false_from_ne_true (lawful_speeds xs) (λ yes. let low = each_low xs _ (lawful_gives xs yes) i in omega arith)

-- so as bytes a list is lawful exactly if it is
pub lawful_bytes : (xs bytes : List ℕ) → bytes ≡ map capped xs → lawful_speeds bytes ≡ lawful_speeds xs
lawful_bytes xs bytes is =
    ap lawful_speeds is
    ∙ ⊎_elim
    (λ e. ap lawful_speeds e)
    (λ w. too_high (map capped xs) w.0 (omega (arith, capped_at xs w.0, w.1)) ∙ sym (too_high xs w.0 (omega (arith, w.1))))
    (fits_or_not xs)

-- and then it is the same list
pub same_bytes : (xs bytes : List ℕ) → bytes ≡ map capped xs → lawful_speeds bytes ≡ true → bytes ≡ xs
same_bytes xs bytes is h =
    let low = each_low xs _ (lawful_gives xs (sym (lawful_bytes xs bytes is) ∙ h)) in
    is ∙ ⊎_elim (λ e. e) (λ w. absurd (omega (arith, low w.0, w.1))) (fits_or_not xs)
