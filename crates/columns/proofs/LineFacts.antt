-- How the lines of a list follow from its first line and what stands behind that.
use Rattle.std.proofs.Common.{◌≡◌, ℕ, suc, ◌+◌, ◌-◌, ◌<◌, ◌≤◌, min, Bool, false, cond, eqb, List, [], ◌∷◌, length, get_or, take, drop, sym, refl, ap, ◌∙◌, arith}
use Rattle.std.proofs.lemmas.Bool.Decides.{nat_tests}
use Rattle.std.proofs.lemmas.Grind.{common_steps}
use Rattle.std.proofs.lemmas.List.{drop_min, drop-drop, get_or-drop, take_rest, length-drop}
use Rattle.std.proofs.lemmas.List.Recursion.{is_position_or_len}
use Rattle.std.specs.List.{position_or_len}
use Rattle.columns.specs.Lines.{newline, lines, first_line}

-- the bytes behind the first newline
abbrev pub behind_first : List ℕ → List ℕ
behind_first [] = []
behind_first (b ∷ bs) = cond (eqb b newline) bs (behind_first bs)

pub first_within : (s : List ℕ) → length (first_line s) ≤ length s
first_within [] = omega arith
first_within (b ∷ bs) = grind (arith, nat_tests, first_within bs)

first_taken : (s : List ℕ) → take (length (first_line s)) s ≡ first_line s
first_taken [] = refl
first_taken (b ∷ bs) = grind (arith, nat_tests, first_taken bs)

behind_dropped : (s : List ℕ) → drop (suc (length (first_line s))) s ≡ behind_first s
behind_dropped [] = refl
behind_dropped (b ∷ bs) = grind (arith, nat_tests, behind_dropped bs)

-- where there are bytes, the lines are the first and those behind it
pub lines_first : (s : List ℕ) → 0 < length s → lines s ≡ first_line s ∷ lines (behind_first s)
lines_first [] h = absurd (omega arith)
lines_first (b ∷ []) h = grind (arith, nat_tests)
lines_first (b ∷ (c ∷ cs)) h = grind (arith, nat_tests, lines_first (c ∷ cs) (omega arith))

-- the first line is as long as the first newline is far
pub length_first : (s : List ℕ) → length (first_line s) ≡ position_or_len (λ b. eqb b newline) s
length_first = is_position_or_len (λ l. length (first_line l)) (λ b. eqb b newline) refl (λ b bs. grind (arith, nat_tests))

-- A reader at `from` has given so many lines, and gives one more: `line`. Then it is at `to`.
pub record GivesOne (s : List ℕ) (from given : ℕ) (line : List ℕ) (to : ℕ) : Type 0 where
  pub inside : to ≤ length s
  pub counted : given + 1 ≤ to
  pub ordered : lines (drop to s) ≡ drop (given + 1) (lines s)
  pub left : lines (drop from s) ≡ line ∷ lines (drop to s)
  pub numbered : line ≡ get_or (lines s) given []

-- `rest` is what the checker has for `&bytes[from..]`, and `width` the length of its first line
abbrev pub rest : List ℕ → ℕ → List ℕ
rest s from = take (length s - from) (drop from s)

module _ (s : List ℕ) (from width : ℕ) (e : width ≡ length (first_line (rest s from))) where
  first_length : width ≡ length (first_line (drop from s))
  first_length = e ∙ ap (λ (l : List ℕ). length (first_line l)) (take_rest s from)

  pub read_within : from ≤ length s → from + width ≤ length s
  read_within h = omega (arith, first_length, first_within (drop from s), length-drop from s)

  read_line : take width (rest s from) ≡ first_line (drop from s)
  read_line = rw (take_rest s from, first_length) (first_taken (drop from s))

  -- the place moves behind the newline, or to the end where there is none
  read_rest : drop (min (from + width + 1) (length s)) s ≡ behind_first (drop from s)
  read_rest =
      let z : from + width + 1 ≡ from + suc (length (first_line (drop from s))) = omega (arith, first_length) in
      rw (drop_min (from + width + 1) s, z, ← drop-drop (suc (length (first_line (drop from s)))) from s) (behind_dropped (drop from s))

  pub read_one : (given to : ℕ) (done : Bool) → done ≡ eqb (length (rest s from)) 0 → done ≡ false
      → given ≤ from → lines (drop from s) ≡ drop given (lines s) → to ≡ min (from + width + 1) (length s) → GivesOne s from given (take width (rest s from)) to
  read_one given to done d some counted ordered t =
      let long = ap length (take_rest s from) in
      let here : from < length s = grind (arith, nat_tests, length-drop) in
      let behind : drop to s ≡ behind_first (drop from s) = ap (λ (k : ℕ). drop k s) t ∙ read_rest in
      let left : lines (drop from s) ≡ take width (rest s from) ∷ lines (drop to s) = rw (read_line, behind) (lines_first (drop from s) (omega (arith, length-drop from s))) in
      record {
        inside = omega arith;
        counted = omega arith;
        ordered = ap (drop 1) (sym left ∙ ordered) ∙ drop-drop 1 given (lines s);
        left = left;
        numbered = ap (λ (ls : List (List ℕ)). get_or ls 0 []) (sym left ∙ ordered) ∙ grind (arith, common_steps, get_or-drop);
      }
