-- How the steps over a field's bytes and a line's fields come to their values.
use Rattle.std.proofs.Common.{◌≡◌, ℕ, suc, ◌+◌, ◌^◌, ◌≤◌, true, false, cond, not, eqb, List, [], ◌∷◌, ◌++◌, drop, Ok, Err, Result, refl, ap, ◌∙◌, arith}
use native.Mathlib.Nat.{pow-le-pow_right}
use Rattle.std.specs.List.{position_or_len}
use Rattle.columns.specs.Fields.{blank, after_blanks}
use Rattle.columns.specs.declared.faults.FieldFault.{FieldFault}

-- what stands behind the blanks starts at the first byte that is none
pub blanks_end : (s : List ℕ) → drop (position_or_len (λ b. not (eqb b blank)) s) s ≡ after_blanks s
blanks_end [] = refl
blanks_end (b ∷ bs) =
    elim (eqb b blank)
    as (λ v. drop (cond (not (not v)) (1 + position_or_len (λ x. not (eqb x blank)) bs) 0) (b ∷ bs) ≡ cond v (after_blanks bs) (b ∷ bs)) [
      | true ↦ (let e : 1 + position_or_len (λ x. not (eqb x blank)) bs ≡ suc (position_or_len (λ x. not (eqb x blank)) bs) = omega arith in
          ap (λ (k : ℕ). drop k (b ∷ bs)) e ∙ blanks_end bs)
      | false ↦ refl
    ]

-- so many digits write no larger number than this
pub power_within : (i : ℕ) → i ≤ 8 → 10 ^ i ≤ 10 ^ 8
power_within i h = pow-le-pow_right {n = 10} (omega arith) {i = i} {j = 8} h

-- numbers read before others, or the fault that comes after them
abbrev pub behind : List ℕ → Result (List ℕ) FieldFault → Result (List ℕ) FieldFault
behind ns (Ok ms) = Ok (ns ++ ms)
behind ns (Err fault) = Err fault
