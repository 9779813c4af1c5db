-- Sequences of listed speeds: the planned one is best, and top speed decides whether there is any.
use Rattle.std.proofs.Common.{◌≡◌, ℕ, zero, suc, ◌-◌, ◌≤◌, Bool, true, Decides, leb, List, [], ◌∷◌, length, replicate, sym, refl, ap, ◌∙◌, arith}
use borrow.Author.Tests.{clash}
use Rattle.std.proofs.lemmas.Bool.{leb-true, le-leb}
use Rattle.std.proofs.lemmas.Bool.Decides.{Decides-and}
use Rattle.std.proofs.lemmas.List.{length-replicate}
use Rattle.measure.specs.Kinds.{measure_of}
use Rattle.measure.specs.Orders.{Order, charge_lists}
use Rattle.recursion.specs.Staged.{In}
use Rattle.recursion.specs.Pumps.{Pump, work_after, InTime, Listed, InTimeSequence, charges_from}
use Rattle.recursion.specs.Speeds.{lawful_speeds, top_of}
use Rattle.recursion.proofs.Ranked.{ranked_order}
use Rattle.recursion.proofs.Rising.{lawful_gives, in_at}
use Rattle.recursion.proofs.Sequences.{pump_optimal}
use Rattle.ledger.specs.declared.job.Job.{Job}
use Rattle.ledger.specs.Ledger.{Ledger, Charges, slots_left, pump_for, no_charge, Sequence, keeps_time, top_throughout, can_be_in_time, plan_for, charges_of}
use Rattle.ledger.specs.Theorems.{TopSpeedDecides}
use Rattle.ledger.proofs.Pump.{step}
use Rattle.ledger.proofs.Times.{recharged, top_in_time}

-- ## The planned sequence

-- lists of charges measure themselves
lists_measure : (f : List ℕ → List ℕ → Bool) (cs : List ℕ) → measure_of (charge_lists f) cs ≡ cs
lists_measure f [] = refl
lists_measure f (c ∷ cs) = ap (λ v. c ∷ v) (lists_measure f cs)

-- a sequence under other charges
pub sequence_under : (speeds : List ℕ) (charge charge' : ℕ → ℕ → ℕ) (q : List Job) (n k : ℕ) (ss : List ℕ) → InTimeSequence (pump_for speeds q charge) n k 0 ss → InTimeSequence (pump_for speeds q charge') n k 0 ss
sequence_under speeds charge charge' q n k ss w = record { each_slot = w.each_slot; listed = w.listed; in_time = recharged speeds speeds charge charge' q k 0 ss w.in_time }

-- where some sequence is in time, the planned one is, and none is below it
pub plan_best : (l : Ledger) (t : Charges) (o : Order) (ss : List ℕ) → Sequence l l.queue ss →
    Sequence l l.queue (plan_for l t o)
    × ((rs : List ℕ) → Sequence l l.queue rs → o.not_above (charges_of l t (plan_for l t o)) (charges_of l t rs) ≡ true)
plan_best l t o ss r =
    let f = o.not_above in
    let y = pump_for l.speeds l.queue t.charge in
    let n = slots_left l in
    let k = l.clock in
    let ps = plan_for l t o in
    let under = λ (us : List ℕ). sequence_under l.speeds no_charge t.charge l.queue n k us in
    let w = pump_optimal (ranked_order o) y n k 0 in
    let x = w.exists ss (under ss r) in
    let b = w.planned_is_best x.0 x.1 in (
      sequence_under l.speeds t.charge no_charge l.queue n k ps b.in_time,
      λ rs u. rw (← b.measure, lists_measure f (charges_from y k ps), lists_measure f (charges_from y k rs)) at (b.none_below rs (under rs u)),
    )

-- ## Top speed

pub decides_leb : (a b : ℕ) → Decides (leb a b) (a ≤ b)
decides_leb a b = (leb-true a b, le-leb a b)

pub decides_in_time : (y : Pump) (k e : ℕ) (ss : List ℕ) → Decides (keeps_time y k e ss) (InTime y k e ss)
decides_in_time y k e [] = ((λ _. tt), λ _. refl)
decides_in_time y k e (s ∷ ss) = Decides-and _ _ (decides_leb _ _) (decides_in_time y (suc k) (work_after y k e s) ss)

pub decides_top : (l : Ledger) (q : List Job) → Decides (can_be_in_time l q) (InTime (pump_for l.speeds q no_charge) l.clock 0 (top_throughout l))
decides_top l q = decides_in_time (pump_for l.speeds q no_charge) l.clock 0 (top_throughout l)

all_listed : (speeds : List ℕ) (s n : ℕ) → In s speeds → Listed speeds (replicate n s)
all_listed speeds s zero h = tt
all_listed speeds s (suc n) h = (h, all_listed speeds s n h)

top_listed : (ss : List ℕ) → lawful_speeds ss ≡ true → In (top_of ss) ss
top_listed ss h = let two = (lawful_gives ss h).some in in_at ss (length ss - 1) (omega arith)

-- top speed throughout is a sequence where it is in time
pub top_sequence : (l : Ledger) (q : List Job) → lawful_speeds l.speeds ≡ true → can_be_in_time l q ≡ true → Sequence l q (top_throughout l)
top_sequence l q lw h = record {
  each_slot = length-replicate (slots_left l) (top_of l.speeds);
  listed = all_listed l.speeds (top_of l.speeds) (slots_left l) (top_listed l.speeds lw);
  in_time = (decides_top l q).0 h;
}

-- and where any sequence is in time, so is top speed throughout
top_as_well : (l : Ledger) (q : List Job) → lawful_speeds l.speeds ≡ true → (ss : List ℕ) → Sequence l q ss → InTime (pump_for l.speeds q no_charge) l.clock 0 (top_throughout l)
top_as_well l q lw ss r =
    rw r.each_slot at (top_in_time l.speeds (top_of l.speeds) q l.clock 0 0 ss (lawful_gives l.speeds lw).under_top r.listed (omega arith) r.in_time)

pub sequence_top : (l : Ledger) (q : List Job) → lawful_speeds l.speeds ≡ true → (ss : List ℕ) → Sequence l q ss → can_be_in_time l q ≡ true
sequence_top l q lw ss r = (decides_top l q).1 (top_as_well l q lw ss r)

pub top_decides : TopSpeedDecides
top_decides l q lw = record {
  some_if_top = λ h. (top_throughout l, top_sequence l q lw ((decides_top l q).1 h));
  top_if_some = top_as_well l q lw;
  some_if_told = λ h. (top_throughout l, top_sequence l q lw h);
  none_if_told = λ f ss r. clash (sym f ∙ sequence_top l q lw ss r);
}

-- with no job every list is in time
pub idle_in_time : (speeds : List ℕ) (k e : ℕ) (ss : List ℕ) → InTime (pump_for speeds [] no_charge) k e ss
idle_in_time speeds k e [] = tt
idle_in_time speeds k e (s ∷ ss) = (omega arith, idle_in_time speeds (suc k) (step [] k e s) ss)
