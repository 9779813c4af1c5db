-- Words: the memory of planning, what planning answers, its promise.
use Rattle.std.specs.Prelude.{◌≡◌, ℕ, ◌+◌, ◌*◌, Bool, cond, not, ◌||◌, List, length, Ok, Err, Result, ◌==◌, nat_lt}
use Rattle.measure.specs.Kinds.{Kind}
use Rattle.recursion.specs.Staged.{Best, none, best, least}
use Rattle.recursion.specs.Pumps.{Pump, InTimeSequence, decisions, PlanIsBest}
use Rattle.recursion.specs.Speeds.{lawful_speeds}
use Rattle.recursion.specs.Work.{most_arrived}
use Rattle.recursion.specs.declared.unplanned.Unplanned.{Unplanned}
use Rattle.recursion.specs.declared.unplanned.Unplanned.TheVariants.{Slots, Speeds, Memory, Late}
use Rattle.recursion.specs.declared.work.SlotWork.{SlotWork}

-- a row has a place for each work done from 0 to the most that has arrived
abbrev pub row_width : List SlotWork → ℕ
row_width work = most_arrived work + 1

-- the slots pass the last, or the places for the speeds are not as many
abbrev pub slots_wrong : ℕ → List SlotWork → ℕ → Bool
slots_wrong first work places = nat_lt 96 (first + length work) || not (places == length work)

-- the lent memory is short
abbrev pub memory_short : List SlotWork → ℕ → ℕ → Bool
memory_short work bytes measures = nat_lt bytes (length work * row_width work) || nat_lt measures (2 * row_width work)

-- the least measure, or that no sequence is in time
abbrev pub least_or : {M : Type 0} → Best M → Result M Unplanned
least_or none = Err Late
least_or (best s m) = Ok m

-- the first reason that holds, else the least measure
abbrev pub plan_answer : {M : Type 0} → Kind M → Pump → ℕ → List SlotWork → ℕ → ℕ → ℕ → Result M Unplanned
plan_answer q y first work bytes measures places =
    cond (slots_wrong first work places) (Err Slots)
    (cond (not (lawful_speeds y.speeds)) (Err Speeds)
    (cond (memory_short work bytes measures) (Err Memory)
    (least_or (least q (decisions y) (length work) first 0))))

-- the places for the speeds after planning: the planned speeds, or after a refusal what they held
abbrev pub places_after : {M : Type 0} → Result M Unplanned → List ℕ → List ℕ → List ℕ
places_after (Ok m) planned before = planned
places_after (Err u) planned before = before

-- what a refusal means beyond its own rule: where there is no plan, no sequence is in time
abbrev pub Unplannable : Pump → ℕ → ℕ → Unplanned → Type 0
Unplannable y n k Slots = Unit {0}
Unplannable y n k Speeds = Unit {0}
Unplannable y n k Memory = Unit {0}
Unplannable y n k Late = (ss : List ℕ) → InTimeSequence y n k 0 ss → ⊥

-- the promise of an answer: a plan is in time, of the measure answered, and no sequence in time measures below it
abbrev pub Promised : {M : Type 0} → Kind M → Pump → ℕ → ℕ → List ℕ → Result M Unplanned → Type 0
Promised q y n k ss (Ok m) = PlanIsBest q y n k 0 m ss
Promised q y n k ss (Err u) = Unplannable y n k u

-- a refusal leaves what it was lent as it was
abbrev pub KeptUnlessPlanned : {M X : Type 0} → Result M Unplanned → X → X → Type 0
KeptUnlessPlanned (Ok m) before after = Unit {0}
KeptUnlessPlanned (Err u) before after = after ≡ before
