-- The laws of lines.
use Rattle.std.proofs.Common.{◌≡◌, ℕ, zero, suc, ◌<◌, true, false, cond, eqb, List, [], ◌∷◌, ◌++◌, length, get_or, refl, ap, arith}
use Rattle.std.proofs.lemmas.Bool.Decides.{nat_tests}
use Rattle.columns.specs.Lines.{newline, in_front, lines, first_line}
use Rattle.columns.specs.Laws.{joined, ends_in_newline, together, without_newlines}
use Rattle.columns.proofs.LineFacts.{behind_first, lines_first}

joined_front : (b : ℕ) (l : List ℕ) (ls : List (List ℕ)) → joined ((b ∷ l) ∷ ls) ≡ b ∷ joined (l ∷ ls)
joined_front b l [] = refl
joined_front b l (m ∷ ms) = refl

-- bytes that follow another join to what they join to alone, behind that other
joined_more : (b c : ℕ) (cs : List ℕ) → joined (lines (b ∷ (c ∷ cs))) ≡ b ∷ joined (lines (c ∷ cs))
joined_more b c cs =
    let first = lines_first (c ∷ cs) (omega arith) in
    let front = joined_front b (first_line (c ∷ cs)) (lines (behind_first (c ∷ cs))) in
    grind (arith, nat_tests)

pub lines_join : (file : List ℕ) → joined (lines file) ++ cond (ends_in_newline file) (newline ∷ []) [] ≡ file
lines_join [] = refl
lines_join (b ∷ []) = grind (arith, nat_tests)
lines_join (b ∷ (c ∷ cs)) = grind (arith, nat_tests, joined_more b c cs, lines_join (c ∷ cs))

pub last_newline : (file : List ℕ) → 0 < length file → ends_in_newline file ≡ false → lines (file ++ (newline ∷ [])) ≡ lines file
last_newline [] h e = absurd (omega arith)
last_newline (b ∷ []) h e = grind (arith, nat_tests)
last_newline (b ∷ (c ∷ cs)) h e =
    ap (λ (ls : List (List ℕ)). cond (eqb b newline) ([] ∷ ls) (in_front b ls)) (last_newline (c ∷ cs) (omega arith) e)

together_front : (b : ℕ) (ls : List (List ℕ)) → together (in_front b ls) ≡ b ∷ together ls
together_front b [] = refl
together_front b (l ∷ ls) = refl

pub lines_together : (file : List ℕ) → together (lines file) ≡ without_newlines file
lines_together [] = refl
lines_together (b ∷ bs) = grind (arith, nat_tests, together_front b (lines bs), lines_together bs)

-- no line holds a newline
abbrev Clean : List (List ℕ) → Type 0
Clean ls = (k i : ℕ) → i < length (get_or ls k []) → get_or (get_or ls k []) i 0 ≡ newline → ⊥

clean_empty : (ls : List (List ℕ)) → Clean ls → Clean ([] ∷ ls)
clean_empty ls h zero i lt e = omega arith
clean_empty ls h (suc k) i lt e = h k i lt e

clean_front : (b : ℕ) (ls : List (List ℕ)) → (b ≡ newline → ⊥) → Clean ls → Clean (in_front b ls)
clean_front b [] ne h zero zero lt e = ne e
clean_front b [] ne h zero (suc i) lt e = omega arith
clean_front b [] ne h (suc k) i lt e = omega arith
clean_front b (l ∷ ls) ne h zero zero lt e = ne e
clean_front b (l ∷ ls) ne h zero (suc i) lt e = h 0 i (omega arith) e
clean_front b (l ∷ ls) ne h (suc k) i lt e = h (suc k) i lt e

pub lines_clean : (file : List ℕ) → Clean (lines file)
lines_clean [] = λ k i lt e. omega arith
lines_clean (b ∷ bs) =
    elim (eqb b newline)
    as (λ v. eqb b newline ≡ v → Clean (cond v ([] ∷ lines bs) (in_front b (lines bs)))) [
      | true ↦ λ t. clean_empty (lines bs) (lines_clean bs)
      | false ↦ λ t. clean_front b (lines bs) (grind (arith, nat_tests)) (lines_clean bs)
    ] refl
