-- Words: lawful list of speeds, as a test and as what it means; its top speed.
use Rattle.std.specs.Prelude.{◌≡◌, ℕ, ◌-◌, ◌≤◌, Bool, true, false, ◌&&◌, List, [], ◌∷◌, length, ◌==◌, nat_le, nat_lt, slice_index, slice_index_or}
use Rattle.recursion.specs.Staged.{In, Rising}

-- the list rises strictly, from above s
abbrev pub rises_from : ℕ → List ℕ → Bool
rises_from s [] = true
rises_from s (t ∷ ss) = nat_lt s t && rises_from t ss

-- the last of s and the list behind it
abbrev pub last_from : ℕ → List ℕ → ℕ
last_from s [] = s
last_from s (t ∷ ss) = last_from t ss

-- 2 to 16 speeds, the first 0, rising strictly, the last 15 or less
abbrev pub lawful_speeds : List ℕ → Bool
lawful_speeds [] = false
lawful_speeds (s ∷ ss) =
    nat_le 2 (length (s ∷ ss)) && (nat_le (length (s ∷ ss)) 16 && (s == 0 && (rises_from s ss && nat_le (last_from s ss) 15)))

-- the last speed, which is the fastest of a lawful list
abbrev pub top_of : List ℕ → ℕ
top_of ss = slice_index ss (length ss - 1)

-- a list of speeds that keeps its rules
pub record LawfulList (ss : List ℕ) : Type 0 where
  pub some : 2 ≤ length ss
  pub few : length ss ≤ 16
  pub from_nought : slice_index_or ss 0 1 ≡ 0
  pub rising : Rising ss
  pub to_fifteen : (s : ℕ) → In s ss → s ≤ 15
