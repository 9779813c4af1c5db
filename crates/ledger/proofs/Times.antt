-- In time by what has arrived and what is owed is in time by the jobs.
use Rattle.std.proofs.Common.{◌≡◌, ℕ, zero, suc, ◌+◌, ◌-◌, ◌<◌, ◌≤◌, min, eqb, ◌⊎◌, List, [], ◌∷◌, length, take, replicate, refl, inl, ⊎_elim, arith}
use Rattle.std.proofs.lemmas.Bool.Decides.{nat_tests}
use Rattle.std.proofs.lemmas.Bool.{cond_both, cases_lt}
use Rattle.recursion.specs.Staged.{In}
use Rattle.recursion.specs.Pumps.{InTime, Listed}
use Rattle.ledger.specs.declared.job.Job.{Job}
use Rattle.ledger.specs.Queue.{Each, Gone, Distinct, Ordered, Unnested, arrived, owed, strike, pumped, pump_slot}
use Rattle.ledger.specs.Ledger.{pump_for, no_charge}
use Rattle.ledger.proofs.Queues.{each_map, each_zip, each_at, each_all, Lined, lined, none_arrived, none_owed, unnested_later}
use Rattle.ledger.proofs.Slots.{queue_after, take_units, gone_later, each_slot, open_left, ordered_slot, unnested_slot, distinct_slot}
use Rattle.ledger.proofs.Pump.{step, done, after_take, take_none, covered, uncovered}

-- in time by what has arrived and what is owed
abbrev pub Timely : List ℕ → List Job → ℕ → ℕ → List ℕ → Type 0
Timely speeds q k e ss = InTime (pump_for speeds q no_charge) k e ss

-- neither the speeds nor the charges play a part
pub recharged : (speeds speeds' : List ℕ) (charge charge' : ℕ → ℕ → ℕ) (q : List Job) (k e : ℕ) (ss : List ℕ) → InTime (pump_for speeds q charge) k e ss → InTime (pump_for speeds' q charge') k e ss
recharged speeds speeds' charge charge' q k e [] h = tt
recharged speeds speeds' charge charge' q k e (s ∷ ss) (h, hs) = (h, recharged speeds speeds' charge charge' q (suc k) (step q k e s) ss hs)

-- what is owed by each slot is done by then
done_by : (speeds : List ℕ) (q : List Job) (k e : ℕ) (ss : List ℕ) → Timely speeds q k e ss → (n m : ℕ) → m ≡ k + suc n → n < length ss → owed q m ≤ done q k e (take (suc n) ss)
done_by speeds q k e [] h n m mk nl = absurd (omega arith)
done_by speeds q k e (s ∷ ss) (h, hs) zero m mk nl = let z : m ≡ suc k = omega arith in rw z h
done_by speeds q k e (s ∷ ss) (h, hs) (suc n) m mk nl = done_by speeds q (suc k) (step q k e s) ss hs n m (omega arith) (omega arith)

by_done : (speeds : List ℕ) (q : List Job) (k e : ℕ) (ss : List ℕ) → ((n m : ℕ) → m ≡ k + suc n → n < length ss → owed q m ≤ done q k e (take (suc n) ss)) → Timely speeds q k e ss
by_done speeds q k e [] h = tt
by_done speeds q k e (s ∷ ss) h = (
  h 0 (suc k) (omega arith) (omega arith),
  by_done speeds q (suc k) (step q k e s) ss (λ n m mk nl. h (suc n) m (omega arith) (omega arith)),
)

-- what a queue must be for the two to agree
pub record Sorted (k : ℕ) (q : List Job) : Type 0 where
  pub line : Lined k q
  pub apart : Distinct q
  pub some_left : Each (λ j. 1 ≤ j.left) q

-- run from slot k, ss leaves the job gone once the clock is at its due slot
abbrev pub Ends : ℕ → List ℕ → List Job → Job → Type 0
Ends k ss q j = Gone j.number (queue_after k (take (j.due - k) ss) q)

abbrev pub Within : ℕ → ℕ → Job → Type 0
Within k n j = (k < j.due) × (j.due ≤ k + n)

after_from : (k : ℕ) (ss : List ℕ) (q : List Job) → Sorted k q → queue_after k ss q ≡ take_units (done q k 0 ss) q
after_from k ss q w = rw (take_none q w.some_left) at (after_take k k 0 ss q w.line (omega arith) (omega arith))

-- a list that is in time finishes each job by its due slot
pub in_time_ends : (k : ℕ) (speeds ss : List ℕ) (q : List Job) → Sorted k q → Each (Within k (length ss)) q → Timely speeds q k 0 ss → Each (Ends k ss q) q
in_time_ends k speeds ss q w dues h =
    each_all (Ends k ss q) q
    (λ j m.
    let d = each_at (Within k (length ss)) q j dues m in
    let n : j.due - k ≡ suc (j.due - suc k) = omega arith in
    let e = done q k 0 (take (suc (j.due - suc k)) ss) in
    let c = covered k j.due e q w.line w.apart (done_by speeds q k 0 ss h (j.due - suc k) j.due (omega arith) (omega arith)) in
    rw (n, after_from k (take (suc (j.due - suc k)) ss) q w) (each_at (λ i. i.due ≤ j.due → Gone i.number (take_units e q)) q j c m (omega arith)))

-- and a list that finishes each job by its due slot is in time
pub ends_in_time : (k : ℕ) (speeds ss : List ℕ) (q : List Job) → Sorted k q → Each (Ends k ss q) q → Timely speeds q k 0 ss
ends_in_time k speeds ss q w ends =
    by_done speeds q k 0 ss
    (λ n m mk nl.
    let tk = take (suc n) ss in
    uncovered k m (done q k 0 tk) q w.line
    (each_map (Ends k ss q) (λ j. j.due ≤ m → Gone j.number (take_units (done q k 0 tk) q)) q
    (λ j g due. rw (after_from k tk q w) at (gone_later j.number k (j.due - k) (suc n) ss q (omega arith) g)) ends))

-- a speed that no listed one passes does at least as much in every slot
pub top_in_time : (speeds : List ℕ) (top : ℕ) (q : List Job) (k e f : ℕ) (ss : List ℕ) → ((s : ℕ) → In s speeds → s ≤ top) → Listed speeds ss → e ≤ f → Timely speeds q k e ss → Timely speeds q k f (replicate (length ss) top)
top_in_time speeds top q k e f [] most l le h = tt
top_in_time speeds top q k e f (s ∷ ss) most (l, ls) le (h, hs) =
    let m : s ≤ top = most s l in
    (omega arith, top_in_time speeds top q (suc k) (step q k e s) (step q k f top) ss most ls (omega arith) hs)

-- what a queue r lacks of a queue q: some units, behind a front
record Fewer (c : ℕ) (q r : List Job) : Type 0 where
  units : ℕ
  front : ℕ
  come : (m : ℕ) → c ≤ m → (arrived q m ≤ arrived r m + units) × (min (arrived q m) front ≤ arrived r m)
  owe : (m : ℕ) → (owed r m + units ≤ owed q m) ⊎ ((owed r m ≤ owed q m) × (owed r m ≤ front))

fewer_in_time : (speeds : List ℕ) (c k e f : ℕ) (ss : List ℕ) (q r : List Job) (w : Fewer c q r) → c ≤ k → e ≤ f + w.units → min e w.front ≤ f → Timely speeds q k e ss → Timely speeds r k f ss
fewer_in_time speeds c k e f [] q r w ck eu ef h = tt
fewer_in_time speeds c k e f (s ∷ ss) q r w ck eu ef (h, hs) =
    let a = w.come k ck in
    let u : step q k e s ≤ step r k f s + w.units = omega arith in
    let v : min (step q k e s) w.front ≤ step r k f s = omega arith in
    (omega (arith, w.owe (suc k)), fewer_in_time speeds c (suc k) (step q k e s) (step r k f s) ss q r w (omega arith) u v hs)

struck_fewer : (c n : ℕ) (q : List Job) → Lined c q → Fewer c q (strike n q)
struck_fewer c n [] l = record { units = 0; front = 0; come = λ m h. (omega arith, omega arith); owe = λ m. inl (omega arith) }
struck_fewer c n (j ∷ q) (l, ls) =
    let w = struck_fewer c n q ls in
    cond_both (eqb j.number n) q (j ∷ strike n q) (Fewer c (j ∷ q))
    (λ t. record {
      units = j.left;
      front = 0;
      come = λ m h. grind (arith, nat_tests);
      owe = λ m. grind (arith, nat_tests, none_owed c m j q l);
    })
    (λ f. record {
      units = w.units;
      front = j.left + w.front;
      come = λ m h. grind (arith, nat_tests, w.come m h, none_arrived c m j q l h);
      owe = λ m. grind (arith, nat_tests, w.owe m);
    })

-- a list that is in time stays so when a job is struck out
pub struck_in_time : (speeds : List ℕ) (k n : ℕ) (ss : List ℕ) (q : List Job) → Lined k q → Timely speeds q k 0 ss → Timely speeds (strike n q) k 0 ss
struck_in_time speeds k n ss q l h = fewer_in_time speeds k k 0 0 ss q (strike n q) (struck_fewer k n q l) (omega arith) (omega arith) (omega arith) h

-- ## After a slot run by a list that is in time

pub slot_ends : (k s : ℕ) (ss : List ℕ) (q : List Job) → Each (λ j. k < j.due) q → Each (Ends k (s ∷ ss) q) q → Each (Ends (suc k) ss (pump_slot k s q)) (pump_slot k s q)
slot_ends k s ss q dues ends =
    each_zip (λ j. k < j.due) (Ends k (s ∷ ss) q) (Ends (suc k) ss (pump_slot k s q)) (pump_slot k s q)
    (λ j d g. let n : j.due - k ≡ suc (j.due - suc k) = omega arith in rw n at g)
    (each_slot (λ j. k < j.due) k s q (λ u j h. h) dues)
    (each_slot (Ends k (s ∷ ss) q) k s q (λ u j h. h) ends)

pub slot_dues : (k s : ℕ) (ss : List ℕ) (q : List Job) → Each (λ j. k < j.due) q → Each (Ends k (s ∷ ss) q) q → Each (λ j. suc k < j.due) (pump_slot k s q)
slot_dues k s ss q dues ends =
    let r = pump_slot k s q in
    let e = slot_ends k s ss q dues ends in
    let d = each_slot (λ j. k < j.due) k s q (λ u j h. h) dues in
    each_all (λ j. suc k < j.due) r
    (λ j m.
    ⊎_elim
    (λ lt. lt)
    (λ le.
    let z : j.due - suc k ≡ zero = omega arith in
    absurd (each_at (λ i. i.number ≡ j.number → ⊥) r j (rw z at (each_at (Ends (suc k) ss r) r j e m)) m refl))
    (cases_lt (suc k) j.due))

pub slot_sorted : (k s : ℕ) (q : List Job) → Ordered q → Unnested k q → Distinct q → Sorted (suc k) (pump_slot k s q)
slot_sorted k s q o u d =
    let r = pump_slot k s q in
    assumption (lined (suc k) r (ordered_slot k s q o) (unnested_later k r (unnested_slot k k s q u)), distinct_slot k s q d, open_left (pumped k s q))
