-- The laws of numbers: what is written is read back, and nothing else is read.
use Rattle.std.proofs.Common.{◌≡◌, ℕ, zero, suc, ◌+◌, ◌-◌, ◌*◌, ◌/◌, ◌%◌, ◌^◌, ◌<◌, ◌≤◌, true, false, cond, eqb, List, [], ◌∷◌, ◌++◌, length, get_or, take, drop, replicate, Some, None, Ok, decimal, sym, refl, ap, ◌∙◌, ⊎_elim, arith}
use Rattle.std.proofs.lemmas.Fmt.{decimal_digit, decimal_step, decimal_by_steps, first_decimal, decimal_nonempty}
use Rattle.std.proofs.lemmas.List.{append_assoc, append-nil, drop_at, length-append, length-take-le, nil_from_length, take_at}
use Rattle.std.proofs.lemmas.Bool.{cases_eq}
use Rattle.std.proofs.lemmas.Bool.Decides.{nat_tests}
use Rattle.columns.specs.Fields.{blank, is_digit, after_blanks, digits_behind, starts_well, numeral, field_value, can_hold, field_at}
use Rattle.columns.specs.Numbers.{padded, justified, fits, written}
use Rattle.columns.proofs.NumberFacts.{length_justified}

past_blanks : (n : ℕ) (ds : List ℕ) → after_blanks (replicate n blank ++ ds) ≡ after_blanks ds
past_blanks zero ds = refl
past_blanks (suc n) ds = past_blanks n ds

no_blank : (ds : List ℕ) → (get_or ds 0 0 ≡ blank → ⊥) → after_blanks ds ≡ ds
no_blank [] h = refl
no_blank (b ∷ bs) h = grind (arith, nat_tests)

-- one digit more at the end
digits_push : (a m c : ℕ) (ds : List ℕ) → digits_behind a ds ≡ Some m → is_digit c ≡ true → digits_behind a (ds ++ (c ∷ [])) ≡ Some (m * 10 + (c - 48))
digits_push a m c [] e t = let q : a ≡ m = cc in rw (t, q)
digits_push a m c (b ∷ bs) e t =
    elim (is_digit b) as (λ v. cond v (digits_behind (a * 10 + (b - 48)) bs) None ≡ Some m → cond v (digits_behind (a * 10 + (b - 48)) (bs ++ (c ∷ []))) None ≡ Some (m * 10 + (c - 48)))
    [ true ↦ λ e'. digits_push (a * 10 + (b - 48)) m c bs e' t | false ↦ λ e'. cc ] e

digits_back : (n : ℕ) → n < 2 ^ 64 → digits_behind 0 (decimal n) ≡ Some n
digits_back =
    decimal_by_steps (λ n ds. digits_behind 0 ds ≡ Some n) (λ n small. grind (arith, nat_tests))
    (λ n ds large ih.
    let t : is_digit (48 + n % 10) ≡ true = grind (arith, nat_tests) in
    let q : n / 10 * 10 + (48 + n % 10 - 48) ≡ n = omega arith in
    digits_push 0 (n / 10) (48 + n % 10) ds ih t ∙ ap Some q)

-- the digits of a number start well, and with no blank
decimal_starts : (n : ℕ) → n < 2 ^ 64 → (starts_well (decimal n) ≡ true) × (after_blanks (decimal n) ≡ decimal n)
decimal_starts n h =
    ⊎_elim
    (λ (none : n ≡ 0). rw (none, decimal_digit 0 (omega arith)) (refl, refl))
    (λ (some : n ≡ 0 → ⊥).
    let first = first_decimal n (omega arith) h in
    let some_digit = decimal_nonempty n h in
    let well : starts_well (decimal n) ≡ true = grind (arith, nat_tests) in
    (well, no_blank (decimal n) (λ e. omega arith)))
    (cases_eq n 0)

value_back : (width value : ℕ) → value < 2 ^ 64 → field_value (justified width value) ≡ Some value
value_back width value h =
    let starts = decimal_starts value h in
    rw (past_blanks (width - length (decimal value)) (decimal value), starts.1, starts.0) (digits_back value h)

-- the part of the page that was written
part_back : (page part : List ℕ) (at width : ℕ) → at ≤ length page → length part ≡ width → take width (drop (at + 1 - 1) (take at page ++ (part ++ drop (at + width) page))) ≡ part
part_back page part at width h e =
    let n : at + 1 - 1 ≡ at = omega arith in
    rw (n, drop_at (take at page) (part ++ drop (at + width) page) at (length-take-le at page h)) (take_at part (drop (at + width) page) width e)

page_back : (width value : ℕ) → value < 2 ^ 64 → length (decimal value) ≤ width → (line : ℕ) (page : List ℕ) (at : ℕ) → at + width ≤ length page → width ≤ 9
    → field_at line (written page at width value) (at + 1) width ≡ Ok value
page_back width value h l line page at w nine =
    let part = justified width value in
    let new = take at page ++ (part ++ drop (at + width) page) in
    let fit : fits page at width value ≡ true = grind (arith, nat_tests) in
    let long : at + width ≤ length new =
    omega (arith, length-append (take at page) (part ++ drop (at + width) page), length-append part (drop (at + width) page), length-take-le at page (omega arith), length_justified width value l) in
    let held : can_hold new (at + 1) width ≡ true = grind (arith, nat_tests) in
    rw (fit, held, part_back page part at width (omega arith) (length_justified width value l), value_back width value h)

pub reads_back : (width value : ℕ) → value < 2 ^ 64 → length (decimal value) ≤ width
    → (length (justified width value) ≡ width)
    × (field_value (justified width value) ≡ Some value)
    × ((line : ℕ) (page : List ℕ) (at : ℕ) → at + width ≤ length page → width ≤ 9 → field_at line (written page at width value) (at + 1) width ≡ Ok value)
reads_back width value h l = (length_justified width value l, value_back width value h, page_back width value h l)

-- a field is its blanks and what stands behind them
behind_within : (s : List ℕ) → length (after_blanks s) ≤ length s
behind_within [] = omega arith
behind_within (b ∷ bs) = grind (arith, nat_tests, behind_within bs)

blanks_before : (s : List ℕ) → padded (length s) (after_blanks s) ≡ s
blanks_before [] = refl
blanks_before (b ∷ bs) =
    let within = behind_within bs in
    elim (eqb b blank)
    as (λ v. eqb b blank ≡ v → padded (suc (length bs)) (cond v (after_blanks bs) (b ∷ bs)) ≡ b ∷ bs) [
      | true ↦ λ t.
          let n : suc (length bs) - length (after_blanks bs) ≡ suc (length bs - length (after_blanks bs)) = omega arith in
          let e : blank ≡ b = grind (arith, nat_tests) in
          rw n (ap (λ (x : ℕ). x ∷ padded (length bs) (after_blanks bs)) e ∙ ap (λ (l : List ℕ). b ∷ l) (blanks_before bs))
      | false ↦ λ t.
          let n : suc (length bs) - suc (length bs) ≡ 0 = omega arith in
          rw n
    ] refl

-- digits write at least the number in front of them
digits_grow : (a m : ℕ) (ds : List ℕ) → digits_behind a ds ≡ Some m → a ≤ m
digits_grow a m [] e = let q : a ≡ m = cc in omega arith
digits_grow a m (b ∷ bs) e =
    elim (is_digit b) as (λ v. cond v (digits_behind (a * 10 + (b - 48)) bs) None ≡ Some m → a ≤ m)
    [ true ↦ λ e'. omega (arith, digits_grow (a * 10 + (b - 48)) m bs e') | false ↦ λ e'. cc ] e

-- digits behind a number are the last digits of the number that they write
digits_are : (a m : ℕ) (ds : List ℕ) → 0 < a → m < 2 ^ 64 → digits_behind a ds ≡ Some m → decimal m ≡ decimal a ++ ds
digits_are a m [] some h e = let q : m ≡ a = cc in rw q (sym (append-nil (decimal a)))
digits_are a m (b ∷ bs) some h e =
    elim (is_digit b)
    as (λ v. is_digit b ≡ v → cond v (digits_behind (a * 10 + (b - 48)) bs) None ≡ Some m → decimal m ≡ decimal a ++ (b ∷ bs)) [
      | true ↦ λ t e'.
          let n = a * 10 + (b - 48) in
          let digit : (48 ≤ b) × (b ≤ 57) = (grind (arith, nat_tests), grind (arith, nat_tests)) in
          let small : n < 2 ^ 64 = omega (arith, digits_grow n m bs e') in
          let q : n / 10 ≡ a = omega arith in
          let r : 48 + n % 10 ≡ b = omega arith in
          digits_are n m bs (omega arith) h e'
          ∙ rw (decimal_step n (omega arith) small, q, r) (append_assoc (decimal a) (b ∷ []) bs)
      | false ↦ λ t e'. cc
    ] refl e

-- digits that start well are those of the number that they write
first_are : (b m : ℕ) (bs : List ℕ) → starts_well (b ∷ bs) ≡ true → is_digit b ≡ true → m < 2 ^ 64 → digits_behind (0 * 10 + (b - 48)) bs ≡ Some m → decimal m ≡ b ∷ bs
first_are b m bs well t h e =
    let n = 0 * 10 + (b - 48) in
    let digit : (48 ≤ b) × (b ≤ 57) = (grind (arith, nat_tests), grind (arith, nat_tests)) in
    let r : 48 + n ≡ b = omega arith in
    let one : decimal n ≡ b ∷ [] = decimal_digit n (omega arith) ∙ ap (λ (x : ℕ). x ∷ []) r in
    ⊎_elim
    (λ (z : b ≡ 48).
    let none : bs ≡ [] = nil_from_length bs (let l : length bs ≡ 0 = grind (arith, nat_tests) in l) in
    let q : Some m ≡ Some n = sym e ∙ ap (digits_behind n) none in
    let p : m ≡ n = cc in
    rw (p, none) one)
    (λ (ne : b ≡ 48 → ⊥). digits_are n m bs (omega arith) h e ∙ ap (λ (ds : List ℕ). ds ++ bs) one)
    (cases_eq b 48)

numeral_are : (t : List ℕ) (m : ℕ) → m < 2 ^ 64 → numeral t ≡ Some m → decimal m ≡ t
numeral_are [] m h e = cc
numeral_are (b ∷ bs) m h e =
    elim (starts_well (b ∷ bs))
    as (λ v. starts_well (b ∷ bs) ≡ v → cond v (digits_behind 0 (b ∷ bs)) None ≡ Some m → decimal m ≡ b ∷ bs) [
      | true ↦ λ well e'.
          elim (is_digit b)
          as (λ v. is_digit b ≡ v → cond v (digits_behind (0 * 10 + (b - 48)) bs) None ≡ Some m → decimal m ≡ b ∷ bs)
          [ true ↦ λ t. first_are b m bs well t h | false ↦ λ t e''. cc ] refl e'
      | false ↦ λ bad e'. cc
    ] refl e

pub only_written : (bytes : List ℕ) (value : ℕ) → value < 2 ^ 64 → field_value bytes ≡ Some value → justified (length bytes) value ≡ bytes
only_written bytes value h e = ap (padded (length bytes)) (numeral_are (after_blanks bytes) value h e) ∙ blanks_before bytes
