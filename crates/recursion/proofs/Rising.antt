-- Lists of speeds: the steps of the tests, and what a lawful list gives.
use Rattle.std.proofs.Common.{◌≡◌, ℕ, zero, suc, ◌+◌, ◌-◌, ◌<◌, ◌≤◌, Bool, true, false, ◌&&◌, eqb, ltb, leb, List, [], ◌∷◌, length, get_or, take, drop, reverse, sym, refl, ap, ◌∙◌, subst, inl, inr, ⊎_elim, add-one, arith}
use borrow.Author.Tests.{clash}
use Rattle.std.proofs.lemmas.List.{get_or_past, get_or_default, get_or-reverse, get_or-take, length-reverse, length-take-le}
use Rattle.std.proofs.Math.Bool.{and-false}
use Rattle.std.proofs.lemmas.Bool.{cases_lt, leb-true, ltb-true, le-leb, lt-ltb, eq-eqb, eqb-true, and_parts, and_from}
use Rattle.std.specs.List.{IsAllAdjacentAnswer}
use Rattle.tariff.specs.Checks.{TestIsExact}
use Rattle.recursion.specs.Staged.{In, Rising}
use Rattle.recursion.specs.Speeds.{rises_from, last_from, lawful_speeds, LawfulList}

-- a list rises exactly if each element is below the next
rises_each : (s : ℕ) (ss : List ℕ) → ((k : ℕ) → k < length ss → true ≡ ltb (get_or (s ∷ ss) k 0) (get_or ss k 0)) → true ≡ rises_from s ss
rises_each s [] h = refl
rises_each s (t ∷ ss) h = sym (and_from _ _ (sym (h 0 (omega arith))) (sym (rises_each t ss (λ k l. h (suc k) (omega arith)))))

rises_not : (s : ℕ) (ss : List ℕ) (k : ℕ) → k < length ss → false ≡ ltb (get_or (s ∷ ss) k 0) (get_or ss k 0) → false ≡ rises_from s ss
rises_not s [] k l h = absurd (omega arith)
rises_not s (t ∷ ss) zero l h = ap (λ (b : Bool). b && rises_from t ss) h
rises_not s (t ∷ ss) (suc k) l h = sym (and-false (ltb s t)) ∙ ap (λ (b : Bool). ltb s t && b) (rises_not t ss k (omega arith) h)

pub rises_answer : (ss : List ℕ) (r : Bool) → IsAllAdjacentAnswer (λ x y b. b ≡ ltb x y) ss r → r ≡ rises_from (get_or ss 0 0) (drop 1 ss)
rises_answer [] true h = refl
rises_answer [] false h = absurd (omega (arith, h.1))
rises_answer (s ∷ ss) true h =
    rises_each s ss (λ k l. subst (λ (v : ℕ). true ≡ ltb (get_or (s ∷ ss) k 0) (get_or (s ∷ ss) v 0)) (add-one k) (h k 0 (omega arith)))
rises_answer (s ∷ ss) false h =
    rises_not s ss h.0 (omega (arith, h.1)) (subst (λ (v : ℕ). false ≡ ltb (get_or (s ∷ ss) h.0 0) (get_or (s ∷ ss) v 0)) (add-one h.0) (h.2 0))

pub last_at : (s : ℕ) (ss : List ℕ) → last_from s ss ≡ get_or (s ∷ ss) (length ss) 0
last_at s [] = refl
last_at s (t ∷ ss) = last_at t ss

pub lawful_by_last : (ss : List ℕ) → 2 ≤ length ss → length ss ≤ 16 → get_or ss 0 0 ≡ 0 → rises_from (get_or ss 0 0) (drop 1 ss) ≡ true → leb (get_or ss (length ss - 1) 0) 15 ≡ lawful_speeds ss
lawful_by_last [] two few first rises = absurd (omega arith)
lawful_by_last (s ∷ ss) two few first rises =
    let at : suc (length ss) - 1 ≡ length ss = omega arith in
    let last : get_or (s ∷ ss) (suc (length ss) - 1) 0 ≡ last_from s ss = ap (λ (i : ℕ). get_or (s ∷ ss) i 0) at ∙ sym (last_at s ss) in
    let a : leb 2 (suc (length ss)) ≡ true = le-leb _ _ two in
    let b : leb (suc (length ss)) 16 ≡ true = le-leb _ _ few in
    let z : eqb s 0 ≡ true = eq-eqb s 0 first in
    let r : rises_from s ss ≡ true = rises in
    simp (last, a, b, z, r)

-- what a lawful list gives, with its last speed for the top
pub record Lawful (ss : List ℕ) (top : ℕ) : Type 0 where
  pub some : 2 ≤ length ss
  pub few : length ss ≤ 16
  pub low_top : top ≤ 15
  pub from_nought : get_or ss 0 1 ≡ 0
  pub rising : Rising ss
  pub is_last : top ≡ get_or ss (length ss - 1) 0
  pub under_top : (s : ℕ) → In s ss → s ≤ top

above : (s : ℕ) (ss : List ℕ) → rises_from s ss ≡ true → (d : ℕ) → In d ss → s < d
above s [] h d i = absurd i
above s (t ∷ ss) h d i =
    let p = and_parts _ _ h in
    let lt : s < t = ltb-true s t p.0 in
    ⊎_elim (λ e. omega arith) (λ j. omega (arith, above t ss p.1 d j)) i

rising_from : (s : ℕ) (ss : List ℕ) → rises_from s ss ≡ true → Rising (s ∷ ss)
rising_from s [] h = (above s [] h, tt)
rising_from s (t ∷ ss) h = (above s (t ∷ ss) h, rising_from t ss (and_parts _ _ h).1)

under_last : (s : ℕ) (ss : List ℕ) → rises_from s ss ≡ true → s ≤ last_from s ss
under_last s [] h = omega arith
under_last s (t ∷ ss) h =
    let p = and_parts _ _ h in
    omega (arith, ltb-true s t p.0, under_last t ss p.1)

in_under_last : (s : ℕ) (ss : List ℕ) → rises_from s ss ≡ true → (d : ℕ) → In d (s ∷ ss) → d ≤ last_from s ss
in_under_last s ss h d (inl e) = omega (arith, under_last s ss h)
in_under_last s [] h d (inr i) = absurd i
in_under_last s (t ∷ ss) h d (inr i) = in_under_last t ss (and_parts _ _ h).1 d i

pub lawful_gives : (ss : List ℕ) → lawful_speeds ss ≡ true → Lawful ss (get_or ss (length ss - 1) 0)
lawful_gives [] h = absurd (clash h)
lawful_gives (s ∷ ss) h =
    let a = and_parts _ _ h in
    let b = and_parts _ _ a.1 in
    let z = and_parts _ _ b.1 in
    let r = and_parts _ _ z.1 in
    let at : suc (length ss) - 1 ≡ length ss = omega arith in
    let last : last_from s ss ≡ get_or (s ∷ ss) (suc (length ss) - 1) 0 = last_at s ss ∙ ap (λ (i : ℕ). get_or (s ∷ ss) i 0) (sym at) in
    record {
      some = leb-true 2 (suc (length ss)) a.0;
      few = leb-true (suc (length ss)) 16 b.0;
      low_top = subst (λ (v : ℕ). v ≤ 15) last (leb-true (last_from s ss) 15 r.1);
      from_nought = eqb-true s 0 z.0;
      rising = rising_from s ss r.0;
      is_last = refl;
      under_top = λ d i. subst (λ (v : ℕ). d ≤ v) last (in_under_last s ss r.0 d i);
    }

pub in_at : (ss : List ℕ) (i : ℕ) → i < length ss → In (get_or ss i 0) ss
in_at [] i h = absurd (omega arith)
in_at (s ∷ ss) zero h = inl refl
in_at (s ∷ ss) (suc i) h = inr (in_at ss i (omega arith))

pub each_low : (ss : List ℕ) (top : ℕ) → Lawful ss top → (i : ℕ) → get_or ss i 0 ≤ 15
each_low ss top w i =
    ⊎_elim
    (λ lt. omega (arith, w.under_top (get_or ss i 0) (in_at ss i lt), w.low_top))
    (λ ge. omega (arith, get_or_past ss i 0 ge))
    (cases_lt i (length ss))

-- the speeds below the last, taken from the top down
pub from_top : (ss : List ℕ) (k s : ℕ) → (k < length (reverse (take (length ss - 1) ss))) × (s ≡ get_or (reverse (take (length ss - 1) ss)) k s) → (k < length ss - 1) × (s ≡ get_or ss (length ss - 1 - (k + 1)) 0)
from_top ss k s h =
    let n = length ss - 1 in
    let lower = take n ss in
    let size : length lower ≡ n = length-take-le n ss (omega arith) in
    let near : k < n = omega (arith, h.0, length-reverse lower, size) in
    let place : length lower - 1 - k ≡ n - (k + 1) = omega (arith, size) in
    (near, h.1 ∙ get_or_default (reverse lower) k s 0 h.0 ∙ get_or-reverse lower k 0 (omega (arith, size)) ∙ get_or-take n ss (length lower - 1 - k) 0 (omega (arith, size)) ∙ ap (λ (v : ℕ). get_or ss v 0) place)

rises_true : (s : ℕ) (ss : List ℕ) → Rising (s ∷ ss) → rises_from s ss ≡ true
rises_true s [] h = refl
rises_true s (t ∷ ss) h = and_from _ _ (lt-ltb s t (h.0 t (inl refl))) (rises_true t ss h.1)

last_in : (s : ℕ) (ss : List ℕ) → In (last_from s ss) (s ∷ ss)
last_in s [] = inl refl
last_in s (t ∷ ss) = inr (last_in t ss)

list_passes : (ss : List ℕ) → LawfulList ss → lawful_speeds ss ≡ true
list_passes [] h = absurd (omega (arith, h.some))
list_passes (s ∷ ss) h =
    and_from _ _ (le-leb _ _ h.some)
    (and_from _ _ (le-leb _ _ h.few)
    (and_from _ _ (eq-eqb s 0 h.from_nought)
    (and_from _ _ (rises_true s ss h.rising) (le-leb _ _ (h.to_fifteen (last_from s ss) (last_in s ss))))))

list_keeps : (ss : List ℕ) → lawful_speeds ss ≡ true → LawfulList ss
list_keeps ss h =
    let w = lawful_gives ss h in
    record { some = w.some; few = w.few; from_nought = w.from_nought; rising = w.rising; to_fifteen = λ t i. omega (arith, w.under_top t i, w.low_top) }

pub lawful_exact : (ss : List ℕ) → TestIsExact (LawfulList ss) (lawful_speeds ss)
lawful_exact ss = record { passes = list_passes ss; keeps = list_keeps ss }
