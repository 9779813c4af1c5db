-- A sequence in time is a list of allowed choices of the pump, and measures the same.
use Rattle.std.proofs.Common.{◌≡◌, ℕ, zero, suc, true, List, [], ◌∷◌, sym, refl, ap, ◌∙◌, subst, arith}
use Rattle.std.proofs.lemmas.Bool.{leb-true, le-leb}
use Rattle.measure.specs.Kinds.{Kind, measure_of}
use Rattle.recursion.specs.Staged.{Allowed, charges}
use Rattle.recursion.specs.Optimality.{Fit}
use Rattle.recursion.specs.Pumps.{Pump, work_after, InTimeSequence, charges_from, decisions, planned_speeds, FitSpeed, PumpRecursion, PumpOptimal}
use Rattle.recursion.proofs.Ranked.{Ranked}
use Rattle.recursion.proofs.Optimum.{optimal, recursion}

pub sequence_allowed : (y : Pump) (n k e : ℕ) (ss : List ℕ) → InTimeSequence y n k e ss → Allowed (decisions y) n k e ss
sequence_allowed y zero k e [] w = tt
sequence_allowed y zero k e (s ∷ ss) w = omega (arith, w.each_slot)
sequence_allowed y (suc n) k e [] w = omega (arith, w.each_slot)
sequence_allowed y (suc n) k e (s ∷ ss) w = (
  w.listed.0,
  le-leb (y.due (suc k)) (work_after y k e s) w.in_time.0,
  sequence_allowed y n (suc k) (work_after y k e s) ss (record { each_slot = omega (arith, w.each_slot); listed = w.listed.1; in_time = w.in_time.1 }),
)

pub allowed_sequence : (y : Pump) (n k e : ℕ) (ss : List ℕ) → Allowed (decisions y) n k e ss → InTimeSequence y n k e ss
allowed_sequence y zero k e [] a = record { each_slot = refl; listed = tt; in_time = tt }
allowed_sequence y zero k e (s ∷ ss) a = absurd a
allowed_sequence y (suc n) k e [] a = absurd a
allowed_sequence y (suc n) k e (s ∷ ss) a =
    let w = allowed_sequence y n (suc k) (work_after y k e s) ss a.2 in
    record { each_slot = ap suc w.each_slot; listed = (a.0, w.listed); in_time = (leb-true (y.due (suc k)) (work_after y k e s) a.1, w.in_time) }

-- the charges do not depend on the work done
pub charges_same : (y : Pump) (k e : ℕ) (ss : List ℕ) → charges (decisions y) k e ss ≡ charges_from y k ss
charges_same y k e [] = refl
charges_same y k e (s ∷ ss) = ap (λ cs. y.charge k s ∷ cs) (charges_same y (suc k) (work_after y k e s) ss)

pub pump_optimal : {M : Type 0} {q : Kind M} (laws : Ranked q) (y : Pump) (n k e : ℕ) → PumpOptimal q y n k e
pump_optimal {M} {q} laws y n k e =
    let w = optimal laws (decisions y) n k e in
    record {
      planned_is_best = λ m h. record {
        in_time = allowed_sequence y n k e (planned_speeds q y n k e) (w.reached h.0 m h.1).0;
        measure = sym (ap (measure_of q) (charges_same y k e (planned_speeds q y n k e))) ∙ (w.reached h.0 m h.1).1;
        none_below = λ rs r. subst (λ (cs : List ℕ). q.not_above m (measure_of q cs) ≡ true) (charges_same y k e rs) (w.none_below h.0 m h.1 rs (sequence_allowed y n k e rs r));
      };
      exists = λ ss r. let v = w.exists ss (sequence_allowed y n k e ss r) in (v.1, (v.0, v.2));
    }

fit_speed : {M : Type 0} {q : Kind M} (y : Pump) (n k e s : ℕ) (m : M) → Fit q (decisions y) n k e s m → FitSpeed q y n k e s m
fit_speed y n k e s m w = record {
  listed = w.listed;
  in_time = leb-true (y.due (suc k)) (work_after y k e s) w.allowed;
  rest = w.rest;
  after = (w.onward, w.after);
  sum = w.sum;
}

speed_fit : {M : Type 0} {q : Kind M} (y : Pump) (n k e s : ℕ) (m : M) → FitSpeed q y n k e s m → Fit q (decisions y) n k e s m
speed_fit y n k e s m w = record {
  listed = w.listed;
  allowed = le-leb (y.due (suc k)) (work_after y k e s) w.in_time;
  onward = w.after.0;
  rest = w.rest;
  after = w.after.1;
  sum = w.sum;
}

pub pump_recursion : {M : Type 0} {q : Kind M} (laws : Ranked q) (y : Pump) (n k e : ℕ) → PumpRecursion q y n k e
pump_recursion laws y n k e =
    let w = recursion laws (decisions y) n k e in
    record {
      past_end = (0, refl);
      reached = λ s m h. fit_speed y n k e s m (w.reached s m h);
      exists = λ t o f. let v = w.exists t o (speed_fit y n k e t o f) in (v.1, (v.0, v.2));
      none_below = λ s m h t o f. w.none_below s m h t o (speed_fit y n k e t o f);
      lowest_speed = λ rising s m h t f. w.lowest_choice rising s m h t (speed_fit y n k e t m f);
    }
