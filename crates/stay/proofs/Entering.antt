-- A job entered: its place, and the array with the jobs behind it moved on.
use Rattle.std.proofs.Common.{◌≡◌, ℕ, suc, ◌+◌, ◌-◌, ◌<◌, ◌≤◌, Bool, true, false, cond, not, ltb, List, [], ◌∷◌, ◌++◌, length, take, drop, set, Some, None, unwrap_or, sym, refl, ap, ◌∙◌, append_assoc, arith, length-drop, length-take-le, take-take}
use Rattle.std.specs.List.{copy_within, position, position_or_len, prefix_len}
use Rattle.std.proofs.Math.Seq.{take-set-lt}
use Rattle.std.proofs.lemmas.List.{drop-take, take_more_set, set-append_left}
use Rattle.std.proofs.lemmas.List.Edits.{take-paste}
use Rattle.std.proofs.lemmas.List.Sums.{prefix_len-le-length}
use Rattle.std.proofs.lemmas.Bool.{cond_both, ltb-false}
use Rattle.ledger.specs.declared.job.Job.{Job}
use Rattle.ledger.specs.Queue.{before, enter}

-- a queue with the job j put in at place p
abbrev pub with_job : ℕ → Job → List Job → List Job
with_job p j q = take p q ++ (j ∷ drop p q)

-- ## The place

pub first_or_end : (p : Job → Bool) (q : List Job) (n : ℕ) → length q ≡ n → unwrap_or (position p q) n ≡ position_or_len p q
first_or_end p q n e =
    let i = position_or_len p q in
    let le : i ≤ length q = prefix_len-le-length (λ x. not (p x)) q in
    cond_both (ltb i (length q)) (Some i) None (λ o. unwrap_or o n ≡ i) (λ _. refl) (λ no. omega (arith, ltb-false i (length q) no))

-- j goes in front of the first job that neither goes before it nor is level with it
pub enter_at : (j : Job) (q : List Job) → enter j q ≡ with_job (position_or_len (λ i. not (before i j)) q) j q
enter_at j [] = refl
enter_at j (i ∷ q) =
    let n = prefix_len (λ x. not (not (before x j))) q in
    let e : suc n ≡ 1 + n = omega arith in
    elim (before i j) as (λ b. cond b (i ∷ enter j q) (j ∷ i ∷ q) ≡ with_job (cond (not (not b)) (1 + n) 0) j (i ∷ q)) [
      | true ↦ ap (λ v. i ∷ v) (enter_at j q) ∙ ap (λ (k : ℕ). with_job k j (i ∷ q)) e
      | false ↦ refl
    ]

-- ## The array

pub entered_array : (js : List Job) (p n : ℕ) (j : Job) → p ≤ n → n < length js → take (n + 1) (set (copy_within js p n (p + 1)) p j) ≡ with_job p j (take n js)
entered_array js p n j a b =
    let out = copy_within js p n (p + 1) in
    let behind = take (n - p) (drop p js) in
    let e : n + 1 ≡ p + 1 + (n - p) = omega arith in
    let f : p + (n - p) ≡ n = omega arith in
    let gone = length-drop p js in
    let len = length-take-le (p + 1) js (omega arith) in
    take-set-lt (n + 1) out p j (omega arith)
    ∙ ap (λ v. set v p j) (ap (λ (k : ℕ). take k out) e ∙ take-paste js (p + 1) (drop p js) (n - p) (omega arith) (omega arith))
    ∙ set-append_left (take (p + 1) js) behind p j (omega arith)
    ∙ ap (λ v. v ++ behind) (sym (take-set-lt (p + 1) js p j (omega arith)) ∙ take_more_set js p j (omega arith))
    ∙ append_assoc (take p js) (j ∷ []) behind
    ∙ ap (λ v. v ++ j ∷ behind) (sym (take-take p n js a))
    ∙ ap (λ v. take p (take n js) ++ j ∷ v) (sym (drop-take p (n - p) js) ∙ ap (λ (k : ℕ). drop p (take k js)) f)
