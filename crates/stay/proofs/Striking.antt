-- The place of a number, and a place struck out.
use Rattle.std.proofs.Common.{◌≡◌, ℕ, zero, suc, ◌+◌, ◌-◌, ◌<◌, ◌≤◌, true, eqb, ltb, List, [], ◌∷◌, ◌++◌, length, get_or, take, drop, Some, None, Option, is_some, sym, refl, ap, ◌∙◌, arith, length-drop, length-take, get_or-take, take-take}
use Rattle.std.specs.List.{copy_within, position, position_or_len}
use Rattle.std.proofs.lemmas.List.{drop-take}
use Rattle.std.proofs.lemmas.List.Edits.{take-paste}
use Rattle.std.proofs.lemmas.List.Recursion.{or_at, or_from_places}
use Rattle.std.proofs.lemmas.List.Sums.{fails_before_first, passes_at_first}
use Rattle.std.proofs.lemmas.Bool.{eqb-true, eq-eqb, ltb-true, ltb-false, cond_both, cond-true, cond-false, or_parts}
use Rattle.ledger.specs.declared.job.Job.{Job}
use Rattle.ledger.specs.Queue.{strike}
use Rattle.ledger.specs.Ledger.{is_open, left_of}
use Rattle.stay.specs.Jobs.{blank, PlaceOf, without}

-- ## The place of a number

pub place_of : (n : ℕ) (q : List Job) → PlaceOf n q (position (λ j. eqb j.number n) q)
place_of n q =
    let p = λ (j : Job). eqb j.number n in
    let i = position_or_len p q in
    cond_both (ltb i (length q)) (Some i) None (PlaceOf n q)
    (λ yes.
    let h : i < length q = ltb-true i (length q) yes in (
      h,
      or_from_places (is_open n) p refl (λ _ _. refl) (take i q) blank (λ k l.
          let le = length-take i q in
          let k_in : k < i = omega arith in
          ap p (get_or-take i q k blank k_in) ∙ fails_before_first p q k blank k_in),
      eqb-true _ n (passes_at_first p q blank h),
    ))
    (λ no.
    let h = ltb-false i (length q) no in
    or_from_places (is_open n) p refl (λ _ _. refl) q blank (λ k l. fails_before_first p q k blank (omega arith)))

-- what the place tells of the queue

pub strike_found : (n : ℕ) (q : List Job) (i : ℕ) → PlaceOf n q (Some i) → strike n q ≡ without i q
strike_found n [] i f = absurd (let a = f.0 in omega arith)
strike_found n (j ∷ q) zero f = cond-true (eqb j.number n) q (j ∷ strike n q) (eq-eqb j.number n f.2)
strike_found n (j ∷ q) (suc i) f =
    let p = or_parts (eqb j.number n) (is_open n (take i q)) f.1 in
    let a = f.0 in
    cond-false (eqb j.number n) q (j ∷ strike n q) p.0 ∙ ap (λ v. j ∷ v) (strike_found n q i (omega arith, p.1, f.2))

open_found : (n : ℕ) (q : List Job) (i : ℕ) → PlaceOf n q (Some i) → true ≡ is_open n q
open_found n q i f =
    sym (or_at (is_open n) (λ j. eqb j.number n) refl (λ _ _. refl) q i blank f.0 (eq-eqb _ n f.2))

pub is_found : (n : ℕ) (q : List Job) (r : Option ℕ) → PlaceOf n q r → is_some r ≡ is_open n q
is_found n q None f = sym f
is_found n q (Some i) f = open_found n q i f

left_found : (n : ℕ) (q : List Job) (i : ℕ) → PlaceOf n q (Some i) → left_of n q ≡ (get_or q i blank).left
left_found n [] i f = absurd (let a = f.0 in omega arith)
left_found n (j ∷ q) zero f = cond-true (eqb j.number n) j.left (left_of n q) (eq-eqb j.number n f.2)
left_found n (j ∷ q) (suc i) f =
    let p = or_parts (eqb j.number n) (is_open n (take i q)) f.1 in
    let a = f.0 in
    cond-false (eqb j.number n) j.left (left_of n q) p.0 ∙ left_found n q i (omega arith, p.1, f.2)

-- the same of the first m places of an array
pub left_at : (n m i : ℕ) (js : List Job) → PlaceOf n (take m js) (Some i) → (get_or js i blank).left ≡ left_of n (take m js)
left_at n m i js f =
    let len = length-take m js in
    let a = f.0 in
    ap (λ (j : Job). j.left) (sym (get_or-take m js i blank (omega arith))) ∙ sym (left_found n (take m js) i f)

-- ## The array

pub struck_array : (js : List Job) (p n : ℕ) → p < n → n ≤ length js → take (n - 1) (copy_within js (p + 1) n p) ≡ without p (take n js)
struck_array js p n a b =
    let out = copy_within js (p + 1) n p in
    let rest = n - (p + 1) in
    let e : n - 1 ≡ p + rest = omega arith in
    let f : p + 1 + rest ≡ n = omega arith in
    let g : p + 1 ≡ suc p = omega arith in
    let gone = length-drop (p + 1) js in
    ap (λ (k : ℕ). take k out) e
    ∙ take-paste js p (drop (p + 1) js) rest (omega arith) (omega arith)
    ∙ ap (λ v. v ++ take rest (drop (p + 1) js)) (sym (take-take p n js (omega arith)))
    ∙ ap (λ v. take p (take n js) ++ v) (sym (drop-take (p + 1) rest js) ∙ ap (λ (k : ℕ). drop (p + 1) (take k js)) f ∙ ap (λ (k : ℕ). drop k (take n js)) g)
