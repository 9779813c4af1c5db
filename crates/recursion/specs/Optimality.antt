-- Words: what is claimed of staged decisions, over every state, kind of measure and charge.
use Rattle.std.specs.Prelude.{◌≡◌, ℕ, suc, ◌+◌, ◌≤◌, true, List, [], ◌∷◌, ◌++◌, length}
use Rattle.measure.specs.Kinds.{Kind}
use Rattle.measure.specs.Orders.{OrdersCharges, charge_lists, not_above_by}
use Rattle.recursion.specs.Staged.{Staged, best, least, planned, In, Allowed, measured, Rising}

-- the least measure over the n stages from k in state x is m, reached first by the choice c
abbrev pub IsLeast : {M X : Type 0} → Kind M → Staged X → ℕ → ℕ → X → ℕ → M → Type 0
IsLeast q y n k x c m = least q y n k x ≡ best c m

-- the choice c is fit in state x and comes to m: it is listed and allowed, there is a least after it,
-- and m is the measure of its charge joined with that
pub record Fit {M X : Type 0} (q : Kind M) (y : Staged X) (n k : ℕ) (x : X) (c : ℕ) (m : M) : Type 0 where
  pub listed : In c y.choices
  pub allowed : y.allowed k x c ≡ true
  pub onward : ℕ
  pub rest : M
  pub after : IsLeast q y n (suc k) (y.next k x c) onward rest
  pub sum : q.join (q.of (y.charge k x c)) rest ≡ m

-- the rule of the recursion, with n stages left after the next
pub record Recursion {M X : Type 0} (q : Kind M) (y : Staged X) (n k : ℕ) (x : X) : Type 0 where
  -- what is least is what its choice, a fit one, comes to
  pub reached : (c : ℕ) (m : M) → IsLeast q y (suc n) k x c m → Fit q y n k x c m
  -- with a fit choice there is a least
  pub exists : (d : ℕ) (o : M) → Fit q y n k x d o → (c : ℕ) × (m : M) × IsLeast q y (suc n) k x c m
  -- no fit choice comes to less
  pub none_below : (c : ℕ) (m : M) → IsLeast q y (suc n) k x c m → (d : ℕ) (o : M) → Fit q y n k x d o → q.not_above m o ≡ true
  -- of the fit choices that come to as little, it is the lowest
  pub lowest_choice : Rising y.choices → (c : ℕ) (m : M) → IsLeast q y (suc n) k x c m → (d : ℕ) → Fit q y n k x d m → c ≤ d

-- the principle of optimality, with n stages left
pub record Optimal {M X : Type 0} (q : Kind M) (y : Staged X) (n k : ℕ) (x : X) : Type 0 where
  -- no allowed list measures below the least
  pub none_below : (c : ℕ) (m : M) → IsLeast q y n k x c m → (cs : List ℕ) → Allowed y n k x cs → q.not_above m (measured q y k x cs) ≡ true
  -- the planned choices are allowed and measure exactly the least
  pub reached : (c : ℕ) (m : M) → IsLeast q y n k x c m → Allowed y n k x (planned q y n k x) × (measured q y k x (planned q y n k x) ≡ m)
  -- if some list is allowed, there is a least
  pub exists : (cs : List ℕ) → Allowed y n k x cs → (c : ℕ) × (m : M) × IsLeast q y n k x c m

-- with an order on lists of charges in the place of the measure that puts it there, the same choices are planned
abbrev pub ByOrderAlone : {M X : Type 0} → Kind M → Staged X → ℕ → ℕ → X → Type 0
ByOrderAlone q y n k x = (o : OrdersCharges q) → planned (charge_lists o.order.not_above) y n k x ≡ planned q y n k x

-- two kinds of measure that order lists of charges alike plan alike
abbrev pub SameOrderSamePlan : {M N X : Type 0} → Kind M → Kind N → Staged X → ℕ → ℕ → X → Type 0
SameOrderSamePlan p q y n k x = ((a b : List ℕ) → not_above_by p a b ≡ not_above_by q a b) → planned p y n k x ≡ planned q y n k x

-- the state after some choices
abbrev pub state_after : {X : Type 0} → Staged X → ℕ → X → List ℕ → X
state_after y k x [] = x
state_after y k x (c ∷ cs) = state_after y (suc k) (y.next k x c) cs

-- where a planned list is cut in two, its second part is what is planned in the state after the first
abbrev pub RestIsPlanned : {M X : Type 0} → Kind M → Staged X → ℕ → ℕ → X → Type 0
RestIsPlanned q y n k x =
    (cs ds : List ℕ) → planned q y n k x ≡ cs ++ ds → ds ≡ planned q y (length ds) (k + length cs) (state_after y k x cs)
