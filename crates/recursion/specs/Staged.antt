-- Words: staged decisions, least, planned choices, allowed lists.
-- In each stage one listed choice is made. It is allowed or not, has a charge, and leads to the next state.
-- Stages are numbered: `n` is how many are left, `k` the number of the next one, `x` the state before it.
use Rattle.std.specs.Prelude.{◌≡◌, ℕ, zero, suc, ◌<◌, Bool, true, false, cond, ◌⊎◌, List, [], ◌∷◌}
use Rattle.measure.specs.Kinds.{Kind, measure_of}

pub record Staged (X : Type 0) : Type 0 where
  pub choices : List ℕ
  pub next : ℕ → X → ℕ → X
  pub allowed : ℕ → X → ℕ → Bool
  pub charge : ℕ → X → ℕ → ℕ

-- a choice with the measure that it comes to, or none
pub data Best (M : Type 0) : Type 0 where
  none : Best M
  best : ℕ → M → Best M

abbrev pub choice_of : {M : Type 0} → Best M → ℕ
choice_of none = 0
choice_of (best c m) = c

-- not above, where none stands above all
abbrev pub under : {M : Type 0} → Kind M → Best M → Best M → Bool
under q none none = true
under q none (best d n) = false
under q (best c m) none = true
under q (best c m) (best d n) = q.not_above m n

-- the lower of two, the first where they are level
abbrev pub lower : {M : Type 0} → Kind M → Best M → Best M → Best M
lower q a b = cond (under q a b) a b

-- the lowest of a and what f gives at each choice of a list, the first where they are level
abbrev pub lowest : {M : Type 0} → Kind M → Best M → (ℕ → Best M) → List ℕ → Best M
lowest q a f [] = a
lowest q a f (c ∷ cs) = lowest q (lower q a (f c)) f cs

-- the choice c, of measure m, before what is least after it
abbrev pub ahead : {M : Type 0} → Kind M → ℕ → M → Best M → Best M
ahead q c m none = none
ahead q c m (best d n) = best c (q.join m n)

-- the least measure over the n stages from k in state x, with the first choice that reaches it
abbrev pub least : {M X : Type 0} → Kind M → Staged X → ℕ → ℕ → X → Best M
least q y zero k x = best 0 q.nought
least q y (suc n) k x =
    lowest q none
    (λ c. cond (y.allowed k x c) (ahead q c (q.of (y.charge k x c)) (least q y n (suc k) (y.next k x c))) none)
    y.choices

-- what one choice comes to, with n stages left after it: what `least` takes the lowest of
abbrev pub attempt : {M X : Type 0} → Kind M → Staged X → ℕ → ℕ → X → ℕ → Best M
attempt q y n k x c = cond (y.allowed k x c) (ahead q c (q.of (y.charge k x c)) (least q y n (suc k) (y.next k x c))) none

-- the choices that follow the least, one for each of the n stages from k in state x; 0 where there is no least
abbrev pub planned : {M X : Type 0} → Kind M → Staged X → ℕ → ℕ → X → List ℕ
planned q y zero k x = []
planned q y (suc n) k x =
    choice_of (least q y (suc n) k x) ∷ planned q y n (suc k) (y.next k x (choice_of (least q y (suc n) k x)))

abbrev pub In : ℕ → List ℕ → Type 0
In c [] = ⊥
In c (d ∷ ds) = (c ≡ d) ⊎ In c ds

-- one choice for each of the n stages, each listed and allowed
abbrev pub Allowed : {X : Type 0} → Staged X → ℕ → ℕ → X → List ℕ → Type 0
Allowed y zero k x [] = Unit {0}
Allowed y zero k x (c ∷ cs) = ⊥
Allowed y (suc n) k x [] = ⊥
Allowed y (suc n) k x (c ∷ cs) = In c y.choices × (y.allowed k x c ≡ true) × Allowed y n (suc k) (y.next k x c) cs

-- the charges of a list of choices, in order, and their measure
abbrev pub charges : {X : Type 0} → Staged X → ℕ → X → List ℕ → List ℕ
charges y k x [] = []
charges y k x (c ∷ cs) = y.charge k x c ∷ charges y (suc k) (y.next k x c) cs

abbrev pub measured : {M X : Type 0} → Kind M → Staged X → ℕ → X → List ℕ → M
measured q y k x cs = measure_of q (charges y k x cs)

-- each is below all that follow
abbrev pub Rising : List ℕ → Type 0
Rising [] = Unit {0}
Rising (c ∷ cs) = ((d : ℕ) → In d cs → c < d) × Rising cs
