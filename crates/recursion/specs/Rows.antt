-- Words: rows. A row holds, for each work done that matters, the least measure from a slot on.
use Rattle.std.specs.Prelude.{◌≡◌, ℕ, suc, ◌+◌, ◌*◌, ◌<◌, ◌≤◌, min, cond, List, [], ◌∷◌, length, drop, nat_le, slice_index, slice_index_or}
use Rattle.measure.specs.Kinds.{Kind}
use Rattle.recursion.specs.Staged.{Best, none, best, lower, lowest, least}
use Rattle.recursion.specs.Pumps.{Pump, decisions}
use Rattle.recursion.specs.Windows.{reach_at, low_for}
use Rattle.recursion.specs.declared.work.SlotWork.{SlotWork}

-- what speed s, its charge of measure m, comes to from work done e, over the row of the next slot:
-- nothing if it does less than is needed
abbrev pub offer : {M : Type 0} → Kind M → M → ℕ → ℕ → List M → ℕ → ℕ → Best M
offer q m arrived need next s e =
    cond (nat_le need (min (e + s) arrived)) (best s (q.join m (slice_index_or next (min (e + s) arrived) q.nought))) none

abbrev pub tried : {M : Type 0} → Kind M → (ℕ → ℕ) → ℕ → ℕ → List M → ℕ → ℕ → Best M
tried q charge arrived need next e s = offer q (q.of (charge s)) arrived need next s e

-- the best of the listed speeds
abbrev pub best_tried : {M : Type 0} → Kind M → (ℕ → ℕ) → ℕ → ℕ → List M → List ℕ → ℕ → Best M
best_tried q charge arrived need next speeds e = lowest q none (tried q charge arrived need next e) speeds

-- a row of picked speeds and measures holds the best at each work done from low to high
abbrev pub Picked : {M : Type 0} → Kind M → (ℕ → ℕ) → ℕ → ℕ → List M → List ℕ → ℕ → ℕ → List M → List ℕ → Type 0
Picked q charge arrived need next speeds low high row picks =
    (e : ℕ) → low ≤ e → e ≤ high → best (slice_index picks e) (slice_index_or row e q.nought) ≡ best_tried q charge arrived need next speeds e

-- a row of picked speeds and measures, lowered by f at each work done from `from` to before `to`, the rest left alone
pub record Lowered {M : Type 0} (q : Kind M) (f : ℕ → Best M) (from to : ℕ) (picks : List ℕ) (row : List M) (picks' : List ℕ) (row' : List M) : Type 0 where
  pub inside : (e : ℕ) → from ≤ e → e < to → best (slice_index picks' e) (slice_index_or row' e q.nought) ≡ lower q (f e) (best (slice_index picks e) (slice_index_or row e q.nought))
  pub below : (e : ℕ) → e < from → best (slice_index picks' e) (slice_index_or row' e q.nought) ≡ best (slice_index picks e) (slice_index_or row e q.nought)
  pub above : (e : ℕ) → to ≤ e → best (slice_index picks' e) (slice_index_or row' e q.nought) ≡ best (slice_index picks e) (slice_index_or row e q.nought)

-- a row holds what is least at each work done from low to high, with n slots left from k
abbrev pub HoldsLeast : {M : Type 0} → Kind M → Pump → ℕ → ℕ → ℕ → ℕ → List M → Type 0
HoldsLeast q y n k low high row =
    (e : ℕ) → low ≤ e → e ≤ high → (s : ℕ) × (least q (decisions y) n k e ≡ best s (slice_index_or row e q.nought))

-- the table holds, from the slot at place i on, the planned speed at each work done that matters
abbrev pub HoldsPlan : {M : Type 0} → Kind M → Pump → ℕ → ℕ → List SlotWork → ℕ → ℕ → List ℕ → Type 0
HoldsPlan {M} q y top first work width i table =
    (j e : ℕ) → i ≤ j → j < length work → low_for top (drop j work) ≤ e → e ≤ reach_at top work 0 j →
    (m : M) × (least q (decisions y) (length (drop j work)) (first + j) e ≡ best (slice_index table (j * width + e)) m)

-- the speeds read off the table, from the slot at place i with work done e
abbrev pub followed : ℕ → List ℕ → List SlotWork → ℕ → ℕ → List ℕ
followed width table [] i e = []
followed width table (w ∷ ws) i e =
    slice_index table (i * width + e) ∷ followed width table ws (suc i) (min (e + slice_index table (i * width + e)) w.arrived)
