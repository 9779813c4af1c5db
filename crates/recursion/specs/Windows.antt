-- Words: keeping up at top speed, how far it reaches, the low. They bound the states that planning has to fill.
use Rattle.std.specs.Prelude.{ℕ, zero, suc, ◌+◌, ◌-◌, min, max, Bool, true, ◌&&◌, List, [], ◌∷◌, nat_le}
use Rattle.recursion.specs.declared.work.SlotWork.{SlotWork}

-- top speed from work done e keeps every due slot
abbrev pub keeps_up : ℕ → List SlotWork → ℕ → Bool
keeps_up top [] e = true
keeps_up top (w ∷ ws) e = nat_le w.due (min (e + top) w.arrived) && keeps_up top ws (min (e + top) w.arrived)

-- the work done by top speed from e, after i slots
abbrev pub reach_at : ℕ → List SlotWork → ℕ → ℕ → ℕ
reach_at top ws e zero = e
reach_at top [] e (suc i) = e
reach_at top (w ∷ ws) e (suc i) = reach_at top ws (min (e + top) w.arrived) i

-- the least work done from which top speed keeps every due slot, where any does
abbrev pub low_for : ℕ → List SlotWork → ℕ
low_for top [] = 0
low_for top (w ∷ ws) = max w.due (low_for top ws) - top
