-- Queues: what holds of each job, the order, what has arrived and what is owed, a job entered or struck out.
use Rattle.std.proofs.Common.{◌≡◌, ℕ, suc, ◌+◌, ◌<◌, ◌≤◌, true, false, ◌⊎◌, List, [], ◌∷◌, length, sym, refl, subst, inl, inr, arith}
use Rattle.std.proofs.lemmas.Bool.Decides.{nat_tests}
use Rattle.std.proofs.lemmas.Bool.{cond_both}
use Rattle.ledger.specs.declared.job.Job.{Job}
use Rattle.ledger.specs.Queue.{Each, Pairs, counted, Apart, Unnested, before, Ordered, enter, strike, arrived, owed, work}

-- ## Each

pub each_map : (P Q : Job → Type 0) (q : List Job) → ((j : Job) → P j → Q j) → Each P q → Each Q q
each_map P Q [] f h = tt
each_map P Q (j ∷ q) f (p, ps) = (f j p, each_map P Q q f ps)

pub each_zip : (P Q R : Job → Type 0) (q : List Job) → ((j : Job) → P j → Q j → R j) → Each P q → Each Q q → Each R q
each_zip P Q R [] f h i = tt
each_zip P Q R (j ∷ q) f (p, ps) (r, rs) = (f j p r, each_zip P Q R q f ps rs)

abbrev pub Mem : Job → List Job → Type 0
Mem j [] = ⊥
Mem j (i ∷ q) = (j ≡ i) ⊎ Mem j q

pub each_at : (P : Job → Type 0) (q : List Job) (j : Job) → Each P q → Mem j q → P j
each_at P [] j h m = absurd m
each_at P (i ∷ q) j (p, ps) (inl e) = subst P (sym e) p
each_at P (i ∷ q) j (p, ps) (inr m) = each_at P q j ps m

pub each_all : (P : Job → Type 0) (q : List Job) → ((j : Job) → Mem j q → P j) → Each P q
each_all P [] f = tt
each_all P (i ∷ q) f = (f i (inl refl), each_all P q (λ j m. f j (inr m)))

pairs_map : (R S : Job → Job → Type 0) (q : List Job) → ((j i : Job) → R j i → S j i) → Pairs R q → Pairs S q
pairs_map R S [] f h = tt
pairs_map R S (j ∷ q) f (p, ps) = (each_map (R j) (S j) q (f j) p, pairs_map R S q f ps)

-- ## The order

-- along the queue, counted releases and due slots rise
abbrev pub Behind : ℕ → Job → Job → Type 0
Behind clock j i = (counted clock j ≤ counted clock i) × (j.due ≤ i.due)

abbrev pub Lined : ℕ → List Job → Type 0
Lined clock q = Pairs (Behind clock) q

before_parts : (i j : Job) → before i j ≡ true → (i.due < j.due) ⊎ ((i.due ≡ j.due) × (i.release ≤ j.release))
before_parts i j h = grind (arith, nat_tests)

pair_lined : (c : ℕ) (j i : Job) → before j i ≡ true → Apart c j i → Behind c j i
pair_lined c j i b a = let p = before_parts j i b in grind (arith, nat_tests)

-- in an unnested queue in its order, counted releases rise too
pub lined : (c : ℕ) (q : List Job) → Ordered q → Unnested c q → Lined c q
lined c [] o u = tt
lined c (j ∷ q) (o, os) (u, us) =
    (each_zip (λ i. before j i ≡ true) (Apart c j) (Behind c j) q (pair_lined c j) o u, lined c q os us)

-- what does not lie inside another at the clock does not later
pub unnested_later : (c : ℕ) (q : List Job) → Unnested c q → Unnested (suc c) q
unnested_later c q = pairs_map (Apart c) (Apart (suc c)) q (λ j i h. grind (arith, nat_tests))

-- ## What has arrived, what is owed

pub none_arrived : (c k : ℕ) (j : Job) (q : List Job) → Each (Behind c j) q → c ≤ k → k < j.release → arrived q k ≡ 0
none_arrived c k j [] h ck kr = refl
none_arrived c k j (i ∷ q) (b, bs) ck kr = grind (arith, nat_tests, none_arrived c k j q bs ck kr)

pub none_owed : (c m : ℕ) (j : Job) (q : List Job) → Each (Behind c j) q → m < j.due → owed q m ≡ 0
none_owed c m j [] h kr = refl
none_owed c m j (i ∷ q) (b, bs) kr = grind (arith, nat_tests, none_owed c m j q bs kr)

pub arrived_more : (q : List Job) (k : ℕ) → arrived q k ≤ arrived q (suc k)
arrived_more [] k = omega arith
arrived_more (j ∷ q) k = grind (arith, nat_tests, arrived_more q k)

-- ## A job entered

pub each_enter : (P : Job → Type 0) (j : Job) (q : List Job) → P j → Each P q → Each P (enter j q)
each_enter P j [] p h = (p, tt)
each_enter P j (i ∷ q) p (h, hs) = grind (arith, each_enter P j q p hs)

pub pairs_enter : (R : Job → Job → Type 0) (j : Job) (q : List Job) → Each (λ i. R i j × R j i) q → Pairs R q → Pairs R (enter j q)
pairs_enter R j [] h p = (tt, tt)
pairs_enter R j (i ∷ q) (h, hs) (p, ps) =
    cond_both (before i j) (i ∷ enter j q) (j ∷ i ∷ q) (Pairs R)
    (λ t. (each_enter (R i) j q h.0 p, pairs_enter R j q hs ps))
    (λ f. ((h.1, each_map (λ i. R i j × R j i) (R j) q (λ i r. r.1) hs), (p, ps)))

-- j goes before a job i that does not go before it, and before each that i goes before
pub goes_before : (i j x : Job) → before i j ≡ false → before i x ≡ true → (before j x ≡ true) × (before x j ≡ false)
goes_before i j x f b = grind (arith, nat_tests)

before_turned : (i j : Job) → before i j ≡ false → before j i ≡ true
before_turned i j f = grind (arith, nat_tests)

pub before_trans : (i j k : Job) → before i j ≡ true → before j k ≡ true → before i k ≡ true
before_trans i j k g h = grind (arith, nat_tests)

pub ordered_enter : (j : Job) (q : List Job) → Ordered q → Ordered (enter j q)
ordered_enter j [] p = (tt, tt)
ordered_enter j (i ∷ q) (p, ps) =
    cond_both (before i j) (i ∷ enter j q) (j ∷ i ∷ q) Ordered
    (λ t. (each_enter (λ x. before i x ≡ true) j q t p, ordered_enter j q ps))
    (λ f. ((before_turned i j f, each_map (λ x. before i x ≡ true) (λ x. before j x ≡ true) q (λ x b. (goes_before i j x f b).0) p), (p, ps)))

pub length_enter : (j : Job) (q : List Job) → length (enter j q) ≡ suc (length q)
length_enter j [] = refl
length_enter j (i ∷ q) = grind (arith, length_enter j q)

pub work_enter : (j : Job) (q : List Job) → work (enter j q) ≡ work q + j.left
work_enter j [] = omega arith
work_enter j (i ∷ q) = grind (arith, work_enter j q)

-- ## A job struck out

pub each_strike : (P : Job → Type 0) (n : ℕ) (q : List Job) → Each P q → Each P (strike n q)
each_strike P n [] h = tt
each_strike P n (j ∷ q) (p, ps) = grind (arith, each_strike P n q ps)

pub pairs_strike : (R : Job → Job → Type 0) (n : ℕ) (q : List Job) → Pairs R q → Pairs R (strike n q)
pairs_strike R n [] h = tt
pairs_strike R n (j ∷ q) (p, ps) = grind (arith, each_strike (R j) n q p, pairs_strike R n q ps)

pub length_strike : (n : ℕ) (q : List Job) → length (strike n q) ≤ length q
length_strike n [] = omega arith
length_strike n (j ∷ q) = grind (arith, length_strike n q)

pub work_strike : (n : ℕ) (q : List Job) → work (strike n q) ≤ work q
work_strike n [] = omega arith
work_strike n (j ∷ q) = grind (arith, work_strike n q)
