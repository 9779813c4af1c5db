-- Words: pump, work done, in time, sequence, the measure of a sequence, planned speeds, least, fit speed.
-- Slots are numbered: `n` is how many are left, `k` the number of the next one, `e` the work done before it.
use Rattle.std.specs.Prelude.{◌≡◌, ℕ, zero, suc, ◌+◌, ◌≤◌, min, true, List, [], ◌∷◌, length, nat_le}
use Rattle.measure.specs.Kinds.{Kind, measure_of}
use Rattle.recursion.specs.Staged.{Staged, In, least, planned, Rising}
use Rattle.recursion.specs.Optimality.{IsLeast}

-- what planning knows of a stay
pub record Pump : Type 0 where
  pub speeds : List ℕ
  -- the work that has arrived by slot k
  pub arrived : ℕ → ℕ
  -- the work that is due by slot k, to be done before it begins
  pub due : ℕ → ℕ
  -- the charge of slot k at speed s
  pub charge : ℕ → ℕ → ℕ

-- the work done after slot k at speed s: no more than has arrived
abbrev pub work_after : Pump → ℕ → ℕ → ℕ → ℕ
work_after y k e s = min (e + s) (y.arrived k)

-- in time: after each slot the work done is at least what is due by the next
abbrev pub InTime : Pump → ℕ → ℕ → List ℕ → Type 0
InTime y k e [] = Unit {0}
InTime y k e (s ∷ ss) = (y.due (suc k) ≤ work_after y k e s) × InTime y (suc k) (work_after y k e s) ss

-- each speed is listed
abbrev pub Listed : List ℕ → List ℕ → Type 0
Listed speeds [] = Unit {0}
Listed speeds (s ∷ ss) = In s speeds × Listed speeds ss

-- one listed speed for each of the n slots from k, in time
pub record InTimeSequence (y : Pump) (n k e : ℕ) (ss : List ℕ) : Type 0 where
  pub each_slot : length ss ≡ n
  pub listed : Listed y.speeds ss
  pub in_time : InTime y k e ss

-- the charges of the speeds of the slots from k on, and their measure
abbrev pub charges_from : Pump → ℕ → List ℕ → List ℕ
charges_from y k [] = []
charges_from y k (s ∷ ss) = y.charge k s ∷ charges_from y (suc k) ss

abbrev pub sequence_measure : {M : Type 0} → Kind M → Pump → ℕ → List ℕ → M
sequence_measure q y k ss = measure_of q (charges_from y k ss)

-- the pump as staged decisions: the state is the work done, a choice is a speed,
-- allowed if the work done after its slot is at least what is due by the next
abbrev pub decisions : Pump → Staged ℕ
decisions y = record {
  choices = y.speeds;
  next = work_after y;
  allowed = λ k e s. nat_le (y.due (suc k)) (work_after y k e s);
  charge = λ k e s. y.charge k s;
}

abbrev pub planned_speeds : {M : Type 0} → Kind M → Pump → ℕ → ℕ → ℕ → List ℕ
planned_speeds q y n k e = planned q (decisions y) n k e

-- the least measure exists and is m, with n slots left from k and work done e
abbrev pub LeastIs : {M : Type 0} → Kind M → Pump → ℕ → ℕ → ℕ → M → Type 0
LeastIs q y n k e m = (s : ℕ) × IsLeast q (decisions y) n k e s m

-- the speed s is fit for slot k, with n slots left after it, and comes to m: it is listed, the work done after its slot is at
-- least what is due by the next, there is a least from there on, and m is the measure of its charge joined with that
pub record FitSpeed {M : Type 0} (q : Kind M) (y : Pump) (n k e s : ℕ) (m : M) : Type 0 where
  pub listed : In s y.speeds
  pub in_time : y.due (suc k) ≤ work_after y k e s
  pub rest : M
  pub after : LeastIs q y n (suc k) (work_after y k e s) rest
  pub sum : q.join (q.of (y.charge k s)) rest ≡ m

-- the rule of the recursion for slot k, with n slots left after it
pub record PumpRecursion {M : Type 0} (q : Kind M) (y : Pump) (n k e : ℕ) : Type 0 where
  -- past the last slot the least is nought
  pub past_end : LeastIs q y 0 k e q.nought
  -- the planned speed is fit and comes to the least
  pub reached : (s : ℕ) (m : M) → IsLeast q (decisions y) (suc n) k e s m → FitSpeed q y n k e s m
  -- with a fit speed there is a least
  pub exists : (t : ℕ) (o : M) → FitSpeed q y n k e t o → (m : M) × LeastIs q y (suc n) k e m
  -- no fit speed comes to less
  pub none_below : (s : ℕ) (m : M) → IsLeast q (decisions y) (suc n) k e s m → (t : ℕ) (o : M) → FitSpeed q y n k e t o → q.not_above m o ≡ true
  -- in a rising list the planned speed is the lowest fit one that comes to the least
  pub lowest_speed : Rising y.speeds → (s : ℕ) (m : M) → IsLeast q (decisions y) (suc n) k e s m → (t : ℕ) → FitSpeed q y n k e t m → s ≤ t

-- the promise of planning: with n slots left from k and work done e, m is the least measure and ss reaches it
pub record PlanIsBest {M : Type 0} (q : Kind M) (y : Pump) (n k e : ℕ) (m : M) (ss : List ℕ) : Type 0 where
  -- the speeds are in time, and m is the measure of their own charges
  pub in_time : InTimeSequence y n k e ss
  pub measure : sequence_measure q y k ss ≡ m
  -- no sequence in time measures below it
  pub none_below : (rs : List ℕ) → InTimeSequence y n k e rs → q.not_above m (sequence_measure q y k rs) ≡ true

-- the principle of optimality for a pump
pub record PumpOptimal {M : Type 0} (q : Kind M) (y : Pump) (n k e : ℕ) : Type 0 where
  -- where there is a least, the planned speeds are best; so some sequence is then in time
  pub planned_is_best : (m : M) → LeastIs q y n k e m → PlanIsBest q y n k e m (planned_speeds q y n k e)
  -- if some sequence is in time, there is a least
  pub exists : (ss : List ℕ) → InTimeSequence y n k e ss → (m : M) × LeastIs q y n k e m

-- in the n slots from k two pumps have the same work and charges
abbrev pub SameSlots : Pump → Pump → ℕ → ℕ → Type 0
SameSlots y z zero k = Unit {0}
SameSlots y z (suc n) k = (y.arrived k ≡ z.arrived k) × (y.due (suc k) ≡ z.due (suc k)) × ((s : ℕ) → y.charge k s ≡ z.charge k s) × SameSlots y z n (suc k)

-- two pumps have the same least and the same plan
pub record SamePlan {M : Type 0} (q : Kind M) (y z : Pump) (n k e : ℕ) : Type 0 where
  pub least : least q (decisions y) n k e ≡ least q (decisions z) n k e
  pub planned : planned_speeds q y n k e ≡ planned_speeds q z n k e
