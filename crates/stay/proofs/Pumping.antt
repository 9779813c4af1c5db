-- A slot pumped, job by job, and the finished jobs left out.
use Rattle.std.proofs.Common.{◌≡◌, ℕ, ◌+◌, ◌-◌, ◌<◌, ◌≤◌, min, true, false, cond, not, eqb, leb, List, [], ◌∷◌, ◌++◌, length, filter, get_or, take, drop, set, sym, refl, ap, ◌∙◌, subst, append_assoc, arith, drop_of_length-le, length-take-le, take_all, get_or-take, drop-set-lt}
use lib.Seq.{take-set-lt}
use Rattle.std.proofs.lemmas.List.{drop_more, take_more_set, append-nil}
use Rattle.std.proofs.lemmas.Bool.{cond_both}
use Rattle.ledger.specs.declared.job.Job.{Job}
use Rattle.ledger.specs.Queue.{lower, share, pumped, units_pumped, finished, unfinished}
use Rattle.ledger.proofs.Slots.{count_falls}
use Rattle.stay.specs.Jobs.{blank}

-- a job loses no more than the speed
share_speed : (k s : ℕ) (j : Job) → share k s j ≤ s
share_speed k s j = cond_both (leb j.release k) (min j.left s) 0 (λ v. v ≤ s) (λ _. omega arith) (λ _. omega arith)

-- ## The jobs lowered

-- slot k at the speed, i jobs of the queue lowered and r left of the speed: in the end the queue is to be `want`, and the
-- units pumped are to be `units`
abbrev pub Under : ℕ → ℕ → List Job → ℕ → List Job → ℕ → ℕ → Type 0
Under k speed want units q i r =
    (r ≤ speed) × (take i q ++ pumped k r (drop i q) ≡ want) × ((speed - r) + units_pumped k r (drop i q) ≡ units)

units_more : (speed r by rest all units : ℕ) → by ≤ r → r ≤ speed → all ≡ by + rest → (speed - r) + all ≡ units → (speed - (r - by)) + rest ≡ units
units_more speed r by rest all units l s e f = omega arith

lowered_queue : (k speed : ℕ) (want : List Job) (units : ℕ) (q : List Job) (i r : ℕ) → i < length q → Under k speed want units q i r →
    Under k speed want units (set q i (lower (share k r (get_or q i blank)) (get_or q i blank))) (i + 1) (r - share k r (get_or q i blank))
lowered_queue k speed want units q i r h u =
    let x = get_or q i blank in
    let by = share k r x in
    let y = lower by x in
    let le = share_speed k r x in
    let more = drop_more q i blank h in
    let rest : drop (i + 1) (set q i y) ≡ drop (i + 1) q = drop-set-lt (i + 1) q i y (omega arith) in
    let pump : pumped k r (drop i q) ≡ y ∷ pumped k (r - by) (drop (i + 1) q) = ap (pumped k r) more in
    let gone : units_pumped k r (drop i q) ≡ by + units_pumped k (r - by) (drop (i + 1) q) = ap (units_pumped k r) more in
    let within = u.0 in (
      omega arith,
      ap (λ v. v ++ pumped k (r - by) (drop (i + 1) (set q i y))) (take_more_set q i y h)
          ∙ ap (λ (v : List Job). (take i q ++ y ∷ []) ++ pumped k (r - by) v) rest
          ∙ append_assoc (take i q) (y ∷ []) (pumped k (r - by) (drop (i + 1) q))
          ∙ ap (λ v. take i q ++ v) (sym pump)
          ∙ u.1,
      ap (λ (v : List Job). (speed - (r - by)) + units_pumped k (r - by) v) rest
          ∙ units_more speed r by (units_pumped k (r - by) (drop (i + 1) q)) (units_pumped k r (drop i q)) units le within gone u.2,
    )

-- the same of the first n places of an array, where the job x loses by
pub lowered_place : (k speed : ℕ) (want : List Job) (units : ℕ) (js : List Job) (n i r : ℕ) (x : Job) (by : ℕ) → i < n → n ≤ length js → x ≡ get_or js i blank → by ≡ share k r (get_or js i blank) →
    Under k speed want units (take n js) i r → Under k speed want units (take n (set js i (lower by x))) (i + 1) (r - by)
lowered_place k speed want units js n i r x by a b ex eb u =
    let q = take n js in
    let z = get_or js i blank in
    let len = length-take-le n js b in
    let P : Job → ℕ → Type 0 = λ v w. Under k speed want units (set q i (lower w v)) (i + 1) (r - w) in
    let base : P z (share k r z) = subst (λ (v : Job). P v (share k r v)) (get_or-take n js i blank a) (lowered_queue k speed want units q i r (omega arith) u) in
    let done : P x by = subst (λ (v : Job). P v by) (sym ex) (subst (λ (w : ℕ). P z w) (sym eb) base) in
    subst (λ (v : List Job). Under k speed want units v (i + 1) (r - by)) (sym (take-set-lt n js i (lower by x) a)) done

pub lowered_all : (k speed : ℕ) (want : List Job) (units : ℕ) (q : List Job) (i r : ℕ) → length q ≤ i → Under k speed want units q i r → (q ≡ want) × (speed - r ≡ units)
lowered_all k speed want units q i r e u =
    let none = drop_of_length-le q {i = i} e in
    let pump : pumped k r (drop i q) ≡ [] = ap (pumped k r) none in
    let gone : units_pumped k r (drop i q) ≡ 0 = ap (units_pumped k r) none in
    let sum = u.2 in (
      sym (append-nil q) ∙ ap (λ v. v ++ []) (sym (take_all i q e)) ∙ ap (λ v. take i q ++ v) (sym pump) ∙ u.1,
      omega arith,
    )

-- ## Without the finished jobs

-- those with something left
pub filter_unfinished : (q : List Job) → filter (λ j. not (eqb j.left 0)) q ≡ unfinished q
filter_unfinished [] = refl
filter_unfinished (j ∷ q) =
    let r = filter_unfinished q in
    let more = filter (λ (i : Job). not (eqb i.left 0)) q in
    elim (eqb j.left 0) as (λ b. cond (not b) (j ∷ more) more ≡ cond b (unfinished q) (j ∷ unfinished q)) [ true ↦ r | false ↦ ap (λ v. j ∷ v) r ]

-- where two lists agree from place i on, they agree there
pub same_here : (xs ys : List Job) (i : ℕ) (d : Job) → drop i ys ≡ drop i xs → i < length xs → i < length ys → get_or xs i d ≡ get_or ys i (get_or xs i d)
same_here xs ys i d e a b =
    let x = drop_more xs i d a in
    let y = drop_more ys i (get_or xs i d) b in
    cc

-- the jobs are the open ones and the finished ones
pub open_and_finished : (q : List Job) → length (unfinished q) + finished q ≡ length q
open_and_finished q = sym (count_falls q)
