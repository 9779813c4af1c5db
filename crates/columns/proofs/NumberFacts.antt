-- How the digits of a number are counted, and found from its end.
use Rattle.std.proofs.Common.{◌≡◌, ℕ, zero, suc, ◌+◌, ◌*◌, ◌/◌, ◌%◌, ◌^◌, ◌<◌, ◌≤◌, true, List, [], ◌∷◌, ◌++◌, length, take, drop, decimal, Option, Some, None, IfSome, IfNone, unwrap_or, sym, ap, ⊎_elim, arith, add-one, pow-suc}
use native.Mathlib.Nat.{pow-le-pow_right}
use Rattle.std.proofs.lemmas.Bool.{cases_lt}
use Rattle.std.proofs.lemmas.Bool.Decides.{nat_tests}
use Rattle.std.proofs.lemmas.Fmt.{decimal_by_steps, decimal_digit, length-decimal-le}
use Rattle.std.proofs.lemmas.List.{append_assoc, append-nil, drop_all, drop_at, length-append, length_push, length-replicate, length-take-le, take_at}
use Rattle.columns.specs.Numbers.{justified, fits, written}

-- a number is below the power of ten with as many zeros as it has digits
below_power : (n : ℕ) → n < 2 ^ 64 → n < 10 ^ length (decimal n)
below_power =
    decimal_by_steps (λ n ds. n < 10 ^ length ds) (λ n small. omega arith)
    (λ n ds large ih. rw (length_push ds (48 + n % 10), add-one, pow-suc) (omega (arith, ih)))

length_from_power : (k n : ℕ) → 10 ^ k ≤ n → n < 10 * 10 ^ k → n < 2 ^ 64 → length (decimal n) ≡ k + 1
length_from_power k n lo hi h =
    let above : n < 10 ^ (k + 1) = rw (add-one, pow-suc) (omega arith) in
    let most = length-decimal-le (k + 1) n (omega arith) above h in
    ⊎_elim
    (λ (more : k < length (decimal n)). omega arith)
    (λ (less : length (decimal n) ≤ k).
    absurd (omega (arith, below_power n h, pow-le-pow_right {n = 10} (omega arith) {i = length (decimal n)} {j = k} less)))
    (cases_lt k (length (decimal n)))

-- what is made of a logarithm, of which 0 has none
pub length_from_log : (n : ℕ) (log : Option ℕ) → n < 2 ^ 64 → IfNone log (n ≡ 0) → IfSome log (λ k. 10 ^ k ≤ n) → IfSome log (λ k. n < 10 * 10 ^ k)
    → unwrap_or log 0 + 1 ≡ length (decimal n)
length_from_log n None h none lo hi = sym (ap length (decimal_digit n (omega arith)))
length_from_log n (Some k) h none lo hi = sym (length_from_power k n lo hi h)

-- the last `k` digits of a number
abbrev pub last_digits : ℕ → ℕ → List ℕ
last_digits zero n = []
last_digits (suc k) n = last_digits k (n / 10) ++ ((48 + n % 10) ∷ [])

all_digits : (n : ℕ) → n < 2 ^ 64 → last_digits (length (decimal n)) n ≡ decimal n
all_digits =
    decimal_by_steps (λ n ds. last_digits (length ds) n ≡ ds)
    (λ n small. let m : n % 10 ≡ n = omega arith in rw m)
    (λ n ds large ih. rw (length_push ds (48 + n % 10), add-one, ih))

-- where the loop that writes the digits starts
pub digits_start : (n : ℕ) (s : List ℕ) → n < 2 ^ 64 → length s ≡ length (decimal n) → last_digits (length s) n ++ drop (length s) s ≡ decimal n
digits_start n s h e = rw (drop_all (length s) s (omega arith), append-nil, e) (all_digits n h)

pub length_justified : (width value : ℕ) → length (decimal value) ≤ width → length (justified width value) ≡ width
length_justified width value h = simp (length-append, length-replicate) (omega arith)

-- a number below the power of ten fits so many columns
pub fits_below : (page : List ℕ) (at width value : ℕ) → 0 < width → value < 10 ^ width → value < 2 ^ 64 → at + width ≤ length page → fits page at width value ≡ true
fits_below page at width value some small h within =
    let columns = length-decimal-le width value some small h in
    grind (arith, nat_tests)

-- the page that was written, for writes from left to right: what stands up to the part's end, and behind it
module _ (page : List ℕ) (at width value : ℕ) (fit : fits page at width value ≡ true) where
  filled : written page at width value ≡ (take at page ++ justified width value) ++ drop (at + width) page
  filled = rw fit (sym (append_assoc (take at page) (justified width value) (drop (at + width) page)))

  filled_length : length (take at page ++ justified width value) ≡ at + width
  filled_length =
      let columns : length (decimal value) ≤ width = grind (arith, nat_tests) in
      let within : at + width ≤ length page = grind (arith, nat_tests) in
      rw length-append (omega (arith, length-take-le at page (omega arith), length_justified width value columns))

  pub written_front : take (at + width) (written page at width value) ≡ take at page ++ justified width value
  written_front = rw filled (take_at (take at page ++ justified width value) (drop (at + width) page) (at + width) filled_length)

  pub written_back : drop (at + width) (written page at width value) ≡ drop (at + width) page
  written_back = rw filled (drop_at (take at page ++ justified width value) (drop (at + width) page) (at + width) filled_length)
