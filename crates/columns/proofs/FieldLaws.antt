-- The law of a line that is read by the widths of its fields.
use Rattle.std.proofs.Common.{◌≡◌, ℕ, zero, suc, ◌+◌, ◌<◌, Bool, true, false, cond, eqb, ◌⊎◌, List, [], ◌∷◌, length, get_or, take, is_ok, Ok, Err, sum, Result, sym, refl, ap, ◌∙◌, inl, inr, ⊎_elim, arith, ne_eqb}
use Rattle.std.proofs.lemmas.List.Sums.{sum_by-cons}
use Rattle.columns.specs.declared.faults.FieldFault.{FieldFault}
use Rattle.columns.specs.declared.faults.LineFault.TheVariants.{Length, Field}
use Rattle.columns.specs.Fields.{field_at, followed_by, fields_from, in_line, line_fields}
use Rattle.columns.specs.Laws.{field_of}

-- what a number and those that follow it can come to
followed_ok : (r : Result ℕ FieldFault) (rs : Result (List ℕ) FieldFault) (ns : List ℕ) → followed_by r rs ≡ Ok ns
    → (n : ℕ) × ((ms : List ℕ) × ((r ≡ Ok n) × (rs ≡ Ok ms) × (ns ≡ n ∷ ms)))
followed_ok (Ok n) (Ok ms) ns e = (n, (ms, (refl, refl, (cc))))
followed_ok (Ok n) (Err fault) ns e = cc
followed_ok (Err fault) rs ns e = cc

followed_err : (r : Result ℕ FieldFault) (rs : Result (List ℕ) FieldFault) (fault : FieldFault) → followed_by r rs ≡ Err fault
    → (r ≡ Err fault) ⊎ ((is_ok r ≡ true) × (rs ≡ Err fault))
followed_err (Ok n) (Ok ms) fault e = cc
followed_err (Ok n) (Err other) fault e = inr (refl, cc)
followed_err (Err other) rs fault e = inl (cc)

-- what its fields answered, if a line was not refused for its length
long_ok : (rs : Result (List ℕ) FieldFault) (long : Bool) (line : ℕ) (ns : List ℕ) → cond long (in_line rs) (Err (Length line)) ≡ Ok ns → rs ≡ Ok ns
long_ok (Ok ms) true line ns e = cc
long_ok (Err fault) true line ns e = cc
long_ok rs false line ns e = cc

long_err : (rs : Result (List ℕ) FieldFault) (long : Bool) (line : ℕ) (fault : FieldFault) → cond long (in_line rs) (Err (Length line)) ≡ Err (Field fault) → rs ≡ Err fault
long_err (Ok ms) true line fault e = cc
long_err (Err other) true line fault e = cc
long_err rs false line fault e = cc

module _ (line : ℕ) (bytes : List ℕ) where
  -- the field behind `k` others, where the first starts in `column`
  abbrev field_behind : ℕ → List ℕ → ℕ → Result ℕ FieldFault
  field_behind column widths k = field_at line bytes (column + sum (take k widths)) (get_or widths k 0)

  first_behind : (column width : ℕ) (widths : List ℕ) → field_behind column (width ∷ widths) 0 ≡ field_at line bytes column width
  first_behind column width widths =
      let n : column + 0 ≡ column = omega arith in
      rw n

  more_behind : (column width k : ℕ) (widths : List ℕ) → field_behind column (width ∷ widths) (suc k) ≡ field_behind (column + width) widths k
  more_behind column width k widths =
      let n : column + sum (width ∷ take k widths) ≡ column + width + sum (take k widths) = omega (arith, sum_by-cons (λ x. x) width (take k widths)) in
      ap (λ (c : ℕ). field_at line bytes c (get_or widths k 0)) n

  -- one field more on the left, for each field
  each_number : (column width n : ℕ) (widths ms ns : List ℕ) → ns ≡ n ∷ ms → field_at line bytes column width ≡ Ok n
      → ((k : ℕ) → k < length widths → field_behind (column + width) widths k ≡ Ok (get_or ms k 0))
      → (k : ℕ) → k < suc (length widths) → field_behind column (width ∷ widths) k ≡ Ok (get_or ns k 0)
  each_number column width n widths ms ns c e others zero lt = rw c (first_behind column width widths ∙ e)
  each_number column width n widths ms ns c e others (suc k) lt = rw c (more_behind column width k widths ∙ others k (omega arith))

  all_before : (column width k : ℕ) (widths : List ℕ) → is_ok (field_at line bytes column width) ≡ true
      → ((j : ℕ) → j < k → is_ok (field_behind (column + width) widths j) ≡ true)
      → (j : ℕ) → j < suc k → is_ok (field_behind column (width ∷ widths) j) ≡ true
  all_before column width k widths e others zero lt = ap is_ok (first_behind column width widths) ∙ e
  all_before column width k widths e others (suc j) lt = ap is_ok (more_behind column width j widths) ∙ others j (omega arith)

  all_numbers : (column : ℕ) (widths ns : List ℕ) → fields_from line bytes column widths ≡ Ok ns
      → (length ns ≡ length widths) × ((k : ℕ) → k < length widths → field_behind column widths k ≡ Ok (get_or ns k 0))
  all_numbers column [] ns e = let none : [] ≡ ns = cc in (ap length (sym none), λ k h. absurd (omega arith))
  all_numbers column (width ∷ widths) ns e =
      let p = followed_ok (field_at line bytes column width) (fields_from line bytes (column + width) widths) ns e in
      let others = all_numbers (column + width) widths p.1.0 p.1.1.1 in (
        ap length p.1.1.2 ∙ ap suc others.0,
        each_number column width p.0 widths p.1.0 ns p.1.1.2 p.1.1.0 others.1,
      )

  first_fault : (column : ℕ) (widths : List ℕ) (fault : FieldFault) → fields_from line bytes column widths ≡ Err fault
      → (k : ℕ) × ((k < length widths) × (field_behind column widths k ≡ Err fault) × ((j : ℕ) → j < k → is_ok (field_behind column widths j) ≡ true))
  first_fault column [] fault e = cc
  first_fault column (width ∷ widths) fault e =
      ⊎_elim
      (λ (here : field_at line bytes column width ≡ Err fault).
      (0, (omega arith, first_behind column width widths ∙ here, λ j h. absurd (omega arith))))
      (λ (later : (is_ok (field_at line bytes column width) ≡ true) × (fields_from line bytes (column + width) widths ≡ Err fault)).
      let p = first_fault (column + width) widths fault later.1 in (
        suc p.0,
        (
          omega (arith, p.1.0),
          more_behind column width p.0 widths ∙ p.1.1,
          all_before column width p.0 widths later.0 p.1.2,
        ),
      ))
      (followed_err (field_at line bytes column width) (fields_from line bytes (column + width) widths) fault e)

  pub wrong_length : (widths : List ℕ) → (sum widths ≡ length bytes → ⊥) → line_fields line bytes widths ≡ Err (Length line)
  wrong_length widths ne =
      ap (λ (b : Bool). cond b (in_line (fields_from line bytes 1 widths)) (Err (Length line))) (ne_eqb (sum widths) (length bytes) ne)

  pub taken : (widths numbers : List ℕ) → line_fields line bytes widths ≡ Ok numbers
      → (length numbers ≡ length widths) × ((k : ℕ) → k < length widths → field_of line bytes widths k ≡ Ok (get_or numbers k 0))
  taken widths numbers e = all_numbers 1 widths numbers (long_ok (fields_from line bytes 1 widths) (eqb (sum widths) (length bytes)) line numbers e)

  pub refused : (widths : List ℕ) (fault : FieldFault) → line_fields line bytes widths ≡ Err (Field fault)
      → (k : ℕ) × ((k < length widths) × (field_of line bytes widths k ≡ Err fault) × ((j : ℕ) → j < k → is_ok (field_of line bytes widths j) ≡ true))
  refused widths fault e = first_fault 1 widths fault (long_err (fields_from line bytes 1 widths) (eqb (sum widths) (length bytes)) line fault e)
