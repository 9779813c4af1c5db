-- The work of the slots from k on, as a pump has it.
use Rattle.std.proofs.Common.{◌≡◌, ℕ, zero, suc, ◌+◌, ◌-◌, List, [], ◌∷◌, drop, sym, ap, subst, add-zero, arith}
use Rattle.recursion.specs.Pumps.{Pump}
use Rattle.recursion.specs.Work.{arrived_at, due_at, pump_of}
use Rattle.recursion.specs.declared.work.SlotWork.{SlotWork}

abbrev pub Feeds : Pump → ℕ → List SlotWork → Type 0
Feeds y k [] = Unit {0}
Feeds y k (w ∷ ws) = (y.arrived k ≡ w.arrived) × (y.due (suc k) ≡ w.due) × Feeds y (suc k) ws

feeds_each : (y : Pump) (k : ℕ) (ws : List SlotWork) → ((i : ℕ) → (y.arrived (k + i) ≡ arrived_at ws i) × (y.due (suc (k + i)) ≡ due_at ws i)) → Feeds y k ws
feeds_each y k [] h = tt
feeds_each y k (w ∷ ws) h =
    let here : k + 0 ≡ k = omega arith in (
      subst (λ (v : ℕ). y.arrived v ≡ w.arrived) here (h 0).0,
      subst (λ (v : ℕ). y.due (suc v) ≡ w.due) here (h 0).1,
      feeds_each y (suc k) ws (λ i.
          let on : k + suc i ≡ suc k + i = omega arith in (
            subst (λ (v : ℕ). y.arrived v ≡ arrived_at ws i) on (h (suc i)).0,
            subst (λ (v : ℕ). y.due (suc v) ≡ due_at ws i) on (h (suc i)).1,
          )),
    )

pub feeds_pump : (speeds : List ℕ) (first : ℕ) (work : List SlotWork) (charge : ℕ → ℕ → ℕ) → Feeds (pump_of speeds first work charge) first work
feeds_pump speeds first work charge =
    feeds_each (pump_of speeds first work charge) first work (λ i.
    let a : first + i - first ≡ i = omega arith in
    let d : suc (first + i) - suc first ≡ i = omega arith in (ap (arrived_at work) a, ap (due_at work) d))

pub feeds_drop : (y : Pump) (k : ℕ) (ws : List SlotWork) (i : ℕ) → Feeds y k ws → Feeds y (k + i) (drop i ws)
feeds_drop y k ws zero h = subst (λ (v : ℕ). Feeds y v ws) (sym (add-zero k)) h
feeds_drop y k [] (suc i) h = tt
feeds_drop y k (w ∷ ws) (suc i) h =
    let on : suc k + i ≡ k + suc i = omega arith in
    subst (λ (v : ℕ). Feeds y v (drop i ws)) on (feeds_drop y (suc k) ws i h.2)
