-- Pumping in queue order is taking units off the front of the queue.
use Rattle.std.proofs.Common.{◌≡◌, ℕ, suc, ◌+◌, ◌-◌, ◌<◌, ◌≤◌, min, cond, eqb, leb, List, [], ◌∷◌, sym, refl, ap, ◌∙◌, subst, ⊎_elim, arith}
use Rattle.std.proofs.lemmas.Bool.Decides.{nat_tests}
use Rattle.std.proofs.lemmas.Bool.{cases_lt, cond_both, eqb-true}
use Rattle.ledger.specs.declared.job.Job.{Job}
use Rattle.ledger.specs.Queue.{Each, Gone, Distinct, arrived, owed, lower, share, pumped, keep_open, unfinished, pump_slot}
use Rattle.ledger.proofs.Queues.{each_map, Behind, Lined, none_arrived, none_owed, arrived_more}
use Rattle.ledger.proofs.Slots.{queue_after, lowered, take_units, gone_keep, gone_take}

-- the work done after slot k at speed s, where it was e before
abbrev pub step : List Job → ℕ → ℕ → ℕ → ℕ
step q k e s = min (e + s) (arrived q k)

-- a job with L units left, at the head of a queue of which e units are taken off and where A units have arrived behind it
pumped_head : (r k L s e A : ℕ) → (k < r → A ≡ 0) → e ≤ cond (leb r k) L 0 + A →
    ((L - min L e) - cond (leb r k) (min (L - min L e) s) 0 ≡ L - min L (min (e + s) (cond (leb r k) L 0 + A)))
    × (min ((e - min L e) + (s - cond (leb r k) (min (L - min L e) s) 0)) A ≡ min (e + s) (cond (leb r k) L 0 + A) - min L (min (e + s) (cond (leb r k) L 0 + A)))
    × (e - min L e ≤ A)
pumped_head r k L s e A n h = grind (arith, nat_tests)

-- pumping, before the finished jobs are dropped
pump_lowered : (c k s e : ℕ) (q : List Job) → Lined c q → c ≤ k → e ≤ arrived q k → pumped k s (lowered e q) ≡ lowered (step q k e s) q
pump_lowered c k s e [] l ck h = refl
pump_lowered c k s e (j ∷ q) (l, ls) ck h =
    let a = pumped_head j.release k j.left s e (arrived q k) (none_arrived c k j q l ck) h in
    cc (a.0, a.1, pump_lowered c k (s - share k s (lower (min j.left e) j)) (e - min j.left e) q ls ck a.2)

-- dropping the finished jobs first changes nothing
pump_open : (k s : ℕ) (q : List Job) → pump_slot k s (unfinished q) ≡ pump_slot k s q
pump_open k s [] = refl
pump_open k s (j ∷ q) = grind (arith, nat_tests, pump_open k s q, pump_open k (s - share k s j) q)

-- pumping slot k at speed s
pump_take : (c k s e : ℕ) (q : List Job) → Lined c q → c ≤ k → e ≤ arrived q k → pump_slot k s (take_units e q) ≡ take_units (step q k e s) q
pump_take c k s e q l ck h = pump_open k s (lowered e q) ∙ ap unfinished (pump_lowered c k s e q l ck h)

-- the work done after a list of speeds
abbrev pub done : List Job → ℕ → ℕ → List ℕ → ℕ
done q k e [] = e
done q k e (s ∷ ss) = done q (suc k) (step q k e s) ss

pub after_take : (c k e : ℕ) (ss : List ℕ) (q : List Job) → Lined c q → c ≤ k → e ≤ arrived q k → queue_after k ss (take_units e q) ≡ take_units (done q k e ss) q
after_take c k e [] q l ck h = refl
after_take c k e (s ∷ ss) q l ck h =
    let more = arrived_more q k in
    ap (queue_after (suc k) ss) (pump_take c k s e q l ck h) ∙ after_take c (suc k) (step q k e s) ss q l (omega arith) (omega arith)

-- nothing taken off
pub take_none : (q : List Job) → Each (λ j. 1 ≤ j.left) q → take_units 0 q ≡ q
take_none [] h = refl
take_none (j ∷ q) (p, ps) = grind (arith, nat_tests, take_none q ps)

-- ## What is owed by a slot, and which jobs are gone

head_gone : (e : ℕ) (j : Job) (q : List Job) → j.left ≤ e → take_units e (j ∷ q) ≡ take_units (e - min j.left e) q
head_gone e j q h = grind (arith, nat_tests)

head_stays : (j : Job) (q : List Job) → Gone j.number (keep_open j q) → j.left ≡ 0
head_stays j q = cond_both (eqb j.left 0) q (j ∷ q) (λ r. Gone j.number r → j.left ≡ 0) (λ t _. eqb-true j.left 0 t) (λ _ g. absurd (g.0 refl))

-- the jobs due by m are gone where e units have been taken off and no more is owed by m
pub covered : (c m e : ℕ) (q : List Job) → Lined c q → Distinct q → owed q m ≤ e → Each (λ j. j.due ≤ m → Gone j.number (take_units e q)) q
covered c m e [] l d h = tt
covered c m e (j ∷ q) (l, ls) (d, ds) h =
    let f = e - min j.left e in
    ⊎_elim
    (λ late. ((λ due. absurd (omega arith)), each_map (Behind c j) (λ i. i.due ≤ m → Gone i.number (take_units e (j ∷ q))) q (λ i b due. absurd (omega arith)) l))
    (λ due.
    let o : (j.left ≤ e) × (owed q m ≤ f) = grind (arith, nat_tests) in
    subst (λ r. Each (λ i. i.due ≤ m → Gone i.number r) (j ∷ q)) (sym (head_gone e j q o.0)) ((λ _. gone_take j.number f q d), covered c m f q ls ds o.1))
    (cases_lt m j.due)

-- and the other way round
pub uncovered : (c m e : ℕ) (q : List Job) → Lined c q → Each (λ j. j.due ≤ m → Gone j.number (take_units e q)) q → owed q m ≤ e
uncovered c m e [] l h = omega arith
uncovered c m e (j ∷ q) (l, ls) (g, gs) =
    let f = e - min j.left e in
    let r = take_units f q in
    let h = lower (min j.left e) j in
    let ih : owed q m ≤ f =
    uncovered c m f q ls (each_map (λ i. i.due ≤ m → Gone i.number (take_units e (j ∷ q))) (λ i. i.due ≤ m → Gone i.number r) q (λ i g due. gone_keep i.number h r (g due)) gs) in
    let all : j.due ≤ m → j.left - min j.left e ≡ 0 = λ due. head_stays h r (g due) in
    grind (arith, nat_tests, none_owed c m j q l, all)
