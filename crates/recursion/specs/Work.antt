-- Words: the work of the slots left, the pump that it describes, the most that has arrived.
-- Work is told by running totals, one pair for each slot left, in order.
use Rattle.std.specs.Prelude.{ℕ, suc, ◌-◌, max, List, [], ◌∷◌, slice_index_or}
use Rattle.recursion.specs.Pumps.{Pump}
use Rattle.recursion.specs.declared.work.SlotWork.{SlotWork}

abbrev pub no_work : SlotWork
no_work = record { due = 0; arrived = 0 }

-- the work that has arrived by the slot at place i
abbrev pub arrived_at : List SlotWork → ℕ → ℕ
arrived_at work i = (slice_index_or work i no_work).arrived

-- the work that is due by the end of the slot at place i
abbrev pub due_at : List SlotWork → ℕ → ℕ
due_at work i = (slice_index_or work i no_work).due

-- the pump with these speeds, work and charges, where the work's first slot has the number `first`; it is asked for what
-- has arrived by its slots left, and for what is due by the slots after them, and means nothing elsewhere
abbrev pub pump_of : List ℕ → ℕ → List SlotWork → (ℕ → ℕ → ℕ) → Pump
pump_of speeds first work charge = record {
  speeds = speeds;
  arrived = λ k. arrived_at work (k - first);
  due = λ k. due_at work (k - suc first);
  charge = charge;
}

abbrev pub most_arrived : List SlotWork → ℕ
most_arrived [] = 0
most_arrived (w ∷ ws) = max w.arrived (most_arrived ws)
