-- A slot pumped, and units taken off: which jobs are gone, what stays of the others, how much is pumped.
use Rattle.std.proofs.Common.{◌≡◌, ℕ, zero, suc, ◌+◌, ◌-◌, ◌≤◌, min, true, eqb, List, [], ◌∷◌, ◌++◌, length, take, refl, ap, ◌∙◌, inl, inr, arith}
use Rattle.std.proofs.lemmas.Bool.Decides.{nat_tests}
use Rattle.std.proofs.lemmas.Bool.{cond_both, eqb-false}
use Rattle.ledger.specs.declared.job.Job.{Job}
use Rattle.ledger.specs.Queue.{Each, Pairs, Gone, Distinct, Apart, Unnested, before, Ordered, arrived, work, lower, share, pumped, units_pumped, finished, keep_open, unfinished, pump_slot}
use Rattle.ledger.specs.Served.{StillOpen, FirstServed}

-- ## Words of the proofs

-- the queue after the slots from k on, one for each speed
abbrev pub queue_after : ℕ → List ℕ → List Job → List Job
queue_after k [] q = q
queue_after k (s ∷ ss) q = queue_after (suc k) ss (pump_slot k s q)

-- the queue with its first e units taken off, whoever's they are: with the finished jobs, and without
abbrev pub lowered : ℕ → List Job → List Job
lowered e [] = []
lowered e (j ∷ q) = lower (min j.left e) j ∷ lowered (e - min j.left e) q

abbrev pub take_units : ℕ → List Job → List Job
take_units e q = unfinished (lowered e q)

-- ## What stays when a slot is pumped

each_pumped : (P Q : Job → Type 0) (k s : ℕ) (q : List Job) → ((u : ℕ) (j : Job) → P j → Q (lower u j)) → Each P q → Each Q (pumped k s q)
each_pumped P Q k s [] f h = tt
each_pumped P Q k s (j ∷ q) f (p, ps) = (f (share k s j) j p, each_pumped P Q k (s - share k s j) q f ps)

each_open : (P : Job → Type 0) (q : List Job) → Each P q → Each P (unfinished q)
each_open P [] h = tt
each_open P (j ∷ q) (p, ps) = grind (arith, each_open P q ps)

pub each_slot : (P : Job → Type 0) (k s : ℕ) (q : List Job) → ((u : ℕ) (j : Job) → P j → P (lower u j)) → Each P q → Each P (pump_slot k s q)
each_slot P k s q f h = each_open P (pumped k s q) (each_pumped P P k s q f h)

pub open_left : (q : List Job) → Each (λ j. 1 ≤ j.left) (unfinished q)
open_left [] = tt
open_left (j ∷ q) = grind (arith, nat_tests, open_left q)

pairs_pumped : (R : Job → Job → Type 0) (k s : ℕ) (q : List Job) → ((u v : ℕ) (j i : Job) → R j i → R (lower u j) (lower v i)) → Pairs R q → Pairs R (pumped k s q)
pairs_pumped R k s [] f h = tt
pairs_pumped R k s (j ∷ q) f (p, ps) =
    let u = share k s j in
    (each_pumped (R j) (R (lower u j)) k (s - u) q (λ v i. f u v j i) p, pairs_pumped R k (s - u) q f ps)

pairs_open : (R : Job → Job → Type 0) (q : List Job) → Pairs R q → Pairs R (unfinished q)
pairs_open R [] h = tt
pairs_open R (j ∷ q) (p, ps) = grind (arith, each_open (R j) q p, pairs_open R q ps)

pairs_slot : (R : Job → Job → Type 0) (k s : ℕ) (q : List Job) → ((u v : ℕ) (j i : Job) → R j i → R (lower u j) (lower v i)) → Pairs R q → Pairs R (pump_slot k s q)
pairs_slot R k s q f h = pairs_open R (pumped k s q) (pairs_pumped R k s q f h)

pub ordered_slot : (k s : ℕ) (q : List Job) → Ordered q → Ordered (pump_slot k s q)
ordered_slot k s q = pairs_slot (λ j i. before j i ≡ true) k s q (λ u v j i h. h)

pub unnested_slot : (c k s : ℕ) (q : List Job) → Unnested c q → Unnested c (pump_slot k s q)
unnested_slot c k s q = pairs_slot (Apart c) k s q (λ u v j i h. h)

pub distinct_slot : (k s : ℕ) (q : List Job) → Distinct q → Distinct (pump_slot k s q)
distinct_slot k s q = pairs_slot (λ j i. i.number ≡ j.number → ⊥) k s q (λ u v j i h. h)

pub length_pumped : (k s : ℕ) (q : List Job) → length (pumped k s q) ≡ length q
length_pumped k s [] = refl
length_pumped k s (j ∷ q) = ap suc (length_pumped k (s - share k s j) q)

-- ## Gone

pub gone_keep : (n : ℕ) (j : Job) (q : List Job) → Gone n (keep_open j q) → Gone n q
gone_keep n j q = cond_both (eqb j.left 0) q (j ∷ q) (λ r. Gone n r → Gone n q) (λ _ g. g) (λ _ g. g.1)

gone_lowered : (n e : ℕ) (q : List Job) → Gone n q → Gone n (lowered e q)
gone_lowered n e [] g = tt
gone_lowered n e (j ∷ q) (d, g) = (d, gone_lowered n (e - min j.left e) q g)

pub gone_take : (n e : ℕ) (q : List Job) → Gone n q → Gone n (take_units e q)
gone_take n e q g = each_open (λ j. j.number ≡ n → ⊥) (lowered e q) (gone_lowered n e q g)

gone_after : (n k : ℕ) (ss : List ℕ) (q : List Job) → Gone n q → Gone n (queue_after k ss q)
gone_after n k [] q g = g
gone_after n k (s ∷ ss) q g = gone_after n (suc k) ss (pump_slot k s q) (each_slot (λ j. j.number ≡ n → ⊥) k s q (λ u j h. h) g)

pub gone_later : (n k a b : ℕ) (ss : List ℕ) (q : List Job) → a ≤ b → Gone n (queue_after k (take a ss) q) → Gone n (queue_after k (take b ss) q)
gone_later n k zero b ss q h g = gone_after n k (take b ss) q g
gone_later n k (suc a) zero ss q h g = absurd (omega arith)
gone_later n k (suc a) (suc b) [] q h g = g
gone_later n k (suc a) (suc b) (s ∷ ss) q h g = gone_later n (suc k) a b ss (pump_slot k s q) (omega arith) g

-- ## How much a slot pumps and finishes

-- a slot at speed s pumps the smaller of s and what has arrived
pub units_arrived : (k s : ℕ) (q : List Job) → units_pumped k s q ≡ min s (arrived q k)
units_arrived k s [] = omega arith
units_arrived k s (j ∷ q) = grind (arith, units_arrived k (s - share k s j) q)

pub share_left : (k s : ℕ) (j : Job) → share k s j ≤ j.left
share_left k s j = grind arith

pub work_falls : (k s : ℕ) (q : List Job) → work q ≡ work (pumped k s q) + units_pumped k s q
work_falls k s [] = refl
work_falls k s (j ∷ q) = omega (arith, share_left k s j, work_falls k (s - share k s j) q)

pub work_open_same : (q : List Job) → work (unfinished q) ≡ work q
work_open_same [] = refl
work_open_same (j ∷ q) = grind (arith, nat_tests, work_open_same q)

pub count_falls : (q : List Job) → length q ≡ length (unfinished q) + finished q
count_falls [] = refl
count_falls (j ∷ q) = grind (arith, count_falls q)

-- the open work falls by what the slot pumps, and the count by what it finishes
pub slot_work : (k s : ℕ) (q : List Job) → work q ≡ work (pump_slot k s q) + min s (arrived q k)
slot_work k s q = omega (arith, work_falls k s q, work_open_same (pumped k s q), units_arrived k s q)

pub slot_count : (k s : ℕ) (q : List Job) → length q ≡ length (pump_slot k s q) + finished (pumped k s q)
slot_count k s q = omega (arith, count_falls (pumped k s q), length_pumped k s q)

-- ## First in the queue, first served

still_open : (k s : ℕ) (q : List Job) → StillOpen q (pump_slot k s q)
still_open k s [] = refl
still_open k s (j ∷ q) =
    let u = share k s j in
    let rest = pump_slot k (s - u) q in
    let r = still_open k (s - u) q in
    let i = lower u j in
    cond_both (eqb i.left 0) rest (i ∷ rest) (StillOpen (j ∷ q)) (λ _. inl r)
    (λ f. inr (i.left, rest, omega (arith, eqb-false i.left 0 f), omega arith, refl, r))

pumped_append : (k s : ℕ) (front back : List Job) → pumped k s (front ++ back) ≡ pumped k s front ++ pumped k (s - units_pumped k s front) back
pumped_append k s [] back = let z : s ≡ s - 0 = omega arith in cc
pumped_append k s (j ∷ front) back =
    let u = share k s j in
    let e : s - u - units_pumped k (s - u) front ≡ s - (u + units_pumped k (s - u) front) = omega arith in
    cc (pumped_append k (s - u) front back)

unfinished_append : (p q : List Job) → unfinished (p ++ q) ≡ unfinished p ++ unfinished q
unfinished_append [] q = refl
unfinished_append (j ∷ p) q = grind (arith, unfinished_append p q)

pub first_served : (k s : ℕ) (q front back : List Job) → q ≡ front ++ back → FirstServed k s front back (pump_slot k s q)
first_served k s q front back e = record {
  of_front = pump_slot k s front;
  of_back = pump_slot k (s - units_pumped k s front) back;
  is = ap (pump_slot k s) e ∙ ap unfinished (pumped_append k s front back) ∙ unfinished_append (pumped k s front) (pumped k (s - units_pumped k s front) back);
  front_open = still_open k s front;
  back_open = still_open k (s - units_pumped k s front) back;
  falls = slot_work k s front;
}
