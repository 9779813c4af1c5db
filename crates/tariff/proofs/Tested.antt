-- The test of a list against a bound, and its step in a loop.
use Rattle.std.proofs.Common.{◌≡◌, ℕ, zero, suc, true, ◌&&◌, leb, List, [], ◌∷◌, refl, arith}
use Rattle.std.proofs.lemmas.Bool.{leb-true, le-leb, and_parts, and_from}
use Rattle.tariff.specs.Bounds.{all_within, EachWithin, CoefficientsWithin, base_bound, linear_bound, cube_bound}
use Rattle.tariff.specs.Checks.{TestIsExact, coefficients_within}

each_within : (bound : ℕ) (xs : List ℕ) → all_within bound xs ≡ true → EachWithin bound xs
each_within bound [] h i = omega arith
each_within bound (x ∷ xs) h zero = leb-true x bound (and_parts (leb x bound) (all_within bound xs) h).0
each_within bound (x ∷ xs) h (suc i) = each_within bound xs (and_parts (leb x bound) (all_within bound xs) h).1 i

all_within_lem : (bound : ℕ) (xs : List ℕ) → EachWithin bound xs → all_within bound xs ≡ true
all_within_lem bound [] h = refl
all_within_lem bound (x ∷ xs) h = and_from (leb x bound) (all_within bound xs) (le-leb x bound (h 0)) (all_within_lem bound xs (λ i. h (suc i)))

pub exact : (bound : ℕ) (xs : List ℕ) → TestIsExact (EachWithin bound xs) (all_within bound xs)
exact bound xs = record { passes = all_within_lem bound xs; keeps = each_within bound xs }

pub coefficients_exact : (base linear cube : ℕ) → TestIsExact (CoefficientsWithin base linear cube) (coefficients_within base linear cube)
coefficients_exact base linear cube =
    let b = leb base base_bound in
    let l = leb linear linear_bound in
    let c = leb cube cube_bound in
    record {
      passes = λ h. and_from b (l && c) (le-leb base base_bound h.0) (and_from l c (le-leb linear linear_bound h.1) (le-leb cube cube_bound h.2));
      keeps = λ t. let p = and_parts b (l && c) t in let r = and_parts l c p.1 in (leb-true base base_bound p.0, leb-true linear linear_bound r.0, leb-true cube cube_bound r.1);
    }
