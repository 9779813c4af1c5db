-- Words: what holds of each job, gone, counted release, inside, unnested, the order of the queue, entering, striking out,
-- arrived, owed, open work, one slot pumped, units pumped, jobs finished.
use Rattle.std.specs.Prelude.{◌≡◌, ℕ, ◌+◌, ◌-◌, min, max, Bool, true, false, cond, ◌&&◌, ◌||◌, List, [], ◌∷◌, ◌==◌, ◌≢◌, nat_le, nat_lt}
use Rattle.ledger.specs.declared.job.Job.{Job}

-- what holds of each job of a queue
abbrev pub Each : (Job → Type 0) → List Job → Type 0
Each P [] = Unit {0}
Each P (j ∷ q) = P j × Each P q

-- what holds of each job with each one behind it
abbrev pub Pairs : (Job → Job → Type 0) → List Job → Type 0
Pairs R [] = Unit {0}
Pairs R (j ∷ q) = Each (R j) q × Pairs R q

-- no job of the queue has the number n
abbrev pub Gone : ℕ → List Job → Type 0
Gone n q = Each (λ j. j.number ≢ n) q

-- no two jobs of the queue have one number
abbrev pub Distinct : List Job → Type 0
Distinct q = Pairs (λ j i. i.number ≢ j.number) q

-- the counted release: a job released before the clock counts as released at the clock
abbrev pub counted : ℕ → Job → ℕ
counted clock j = max j.release clock

-- i lies inside j: it counts as released after j and is due before it
abbrev pub inside : ℕ → Job → Job → Bool
inside clock i j = nat_lt (counted clock j) (counted clock i) && nat_lt i.due j.due

-- neither of two jobs lies inside the other
abbrev pub Apart : ℕ → Job → Job → Type 0
Apart clock j i = (inside clock i j ≡ false) × (inside clock j i ≡ false)

-- no job of the queue lies inside another
abbrev pub Unnested : ℕ → List Job → Type 0
Unnested clock q = Pairs (Apart clock) q

-- i goes before j or is level with it
abbrev pub before : Job → Job → Bool
before i j = nat_lt i.due j.due || (i.due == j.due && nat_le i.release j.release)

-- in order: by due slots, equal ones by releases; jobs level in both keep the order of booking, which entering sees to
abbrev pub Ordered : List Job → Type 0
Ordered q = Pairs (λ j i. before j i ≡ true) q

-- a job entered joins the queue behind those that go before it and those level with it
abbrev pub enter : Job → List Job → List Job
enter j [] = j ∷ []
enter j (i ∷ q) = cond (before i j) (i ∷ enter j q) (j ∷ i ∷ q)

-- the job with the number n struck out
abbrev pub strike : ℕ → List Job → List Job
strike n [] = []
strike n (j ∷ q) = cond (j.number == n) q (j ∷ strike n q)

-- A(k): the units left of all jobs released by slot k
abbrev pub arrived : List Job → ℕ → ℕ
arrived [] k = 0
arrived (j ∷ q) k = cond (nat_le j.release k) j.left 0 + arrived q k

-- D(k): the units left of all jobs due by slot k
abbrev pub owed : List Job → ℕ → ℕ
owed [] k = 0
owed (j ∷ q) k = cond (nat_le j.due k) j.left 0 + owed q k

-- the open work
abbrev pub work : List Job → ℕ
work [] = 0
work (j ∷ q) = j.left + work q

abbrev pub lower : ℕ → Job → Job
lower by j = record { number = j.number; release = j.release; due = j.due; left = j.left - by }

-- what a job gets in slot k where s units of the speed remain: nothing before its release, else what it can use of them
abbrev pub share : ℕ → ℕ → Job → ℕ
share k s j = cond (nat_le j.release k) (min j.left s) 0

-- slot k at speed s, in queue order; the finished jobs still stand, with nothing left
abbrev pub pumped : ℕ → ℕ → List Job → List Job
pumped k s [] = []
pumped k s (j ∷ q) = lower (share k s j) j ∷ pumped k (s - share k s j) q

-- what the jobs lose in all
abbrev pub units_pumped : ℕ → ℕ → List Job → ℕ
units_pumped k s [] = 0
units_pumped k s (j ∷ q) = share k s j + units_pumped k (s - share k s j) q

-- the finished jobs are those with nothing left: how many they are, and the queue without them
abbrev pub finished : List Job → ℕ
finished [] = 0
finished (j ∷ q) = cond (j.left == 0) 1 0 + finished q

abbrev pub keep_open : Job → List Job → List Job
keep_open j q = cond (j.left == 0) q (j ∷ q)

abbrev pub unfinished : List Job → List Job
unfinished [] = []
unfinished (j ∷ q) = keep_open j (unfinished q)

-- the queue after slot k at speed s
abbrev pub pump_slot : ℕ → ℕ → List Job → List Job
pump_slot k s q = unfinished (pumped k s q)
