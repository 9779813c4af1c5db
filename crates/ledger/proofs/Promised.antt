-- The promise, from what is true of every ledger.
use Rattle.std.proofs.Common.{◌≡◌, ℕ, ◌-◌, ◌<◌, ◌≤◌, true, List, [], ◌∷◌, length, take, sym, refl, ap, ◌∙◌, subst, ⊎_elim, arith}
use borrow.Author.Tests.{clash}
use Rattle.std.proofs.lemmas.Bool.{cases_Bool}
use Rattle.measure.specs.Kinds.{Kind, Laws, measure_of}
use Rattle.measure.specs.Orders.{Order, order_of}
use Rattle.recursion.specs.Optimality.{IsLeast}
use Rattle.recursion.specs.Pumps.{decisions, charges_from}
use Rattle.recursion.proofs.Ranked.{ranked}
use Rattle.recursion.proofs.Image.{planned_image}
use Rattle.recursion.proofs.Optimum.{recursion}
use Rattle.recursion.proofs.Rising.{lawful_gives}
use Rattle.recursion.proofs.Sequences.{pump_optimal}
use Rattle.ledger.specs.declared.job.Job.{Job}
use Rattle.ledger.specs.Queue.{Each, enter}
use Rattle.ledger.specs.Ledger.{Ledger, Charges, Call, booking, slots_left, pump_for, no_charge, Sequence, top_throughout, can_be_in_time, plan_for, refusal, entered, slot_run, ledger}
use Rattle.ledger.specs.Promise.{runs, Finishes, Rival, IsBest, ExactVerdict, Upheld, Promise}
use Rattle.ledger.specs.Sound.{Fair, Sound}
use Rattle.ledger.specs.Theorems.{InLine, RunsAlwaysAgree, MeasuredPlan}
use Rattle.ledger.proofs.Queues.{each_map, each_zip, lined}
use Rattle.ledger.proofs.Slots.{queue_after}
use Rattle.ledger.proofs.Times.{Timely, Sorted, Ends, Within, in_time_ends, ends_in_time}
use Rattle.ledger.proofs.Plans.{sequence_under, plan_best, top_sequence, sequence_top}
use Rattle.ledger.proofs.Booked.{Passed, passed_none, taken, not_in_time, verdict_is}
use Rattle.ledger.proofs.Kept.{each_left, each_ahead, sound_sorted, sound_within, passed_sorted, entered_sound, ledger_sound}
use Rattle.ledger.proofs.Answered.{answer_lawful}

-- ## Run on the ledger

runs_queue : (ss : List ℕ) (l : Ledger) → (runs ss l).queue ≡ queue_after l.clock ss l.queue
runs_queue [] l = refl
runs_queue (s ∷ ss) l = runs_queue ss (slot_run s l)

timely_finishes : (l : Ledger) (ss : List ℕ) → Sorted l.clock l.queue → Each (Within l.clock (length ss)) l.queue → Timely l.speeds l.queue l.clock 0 ss → Each (Finishes l ss) l.queue
timely_finishes l ss w dues h =
    each_map (Ends l.clock ss l.queue) (Finishes l ss) l.queue (λ j g. rw (runs_queue (take (j.due - l.clock) ss) l) g) (in_time_ends l.clock l.speeds ss l.queue w dues h)

finishes_timely : (l : Ledger) (ss : List ℕ) → Sorted l.clock l.queue → Each (Finishes l ss) l.queue → Timely l.speeds l.queue l.clock 0 ss
finishes_timely l ss w h =
    ends_in_time l.clock l.speeds ss l.queue w
    (each_map (Finishes l ss) (Ends l.clock ss l.queue) l.queue (λ j g. rw (runs_queue (take (j.due - l.clock) ss) l) at g) h)

pub runs_agree : RunsAlwaysAgree
runs_agree l ss i n =
    let c = l.clock in
    let w : Sorted c l.queue = record { line = lined c l.queue i.ordered i.unnested; apart = i.distinct; some_left = i.some_left } in
    let dues = each_zip (λ j. c < j.due) (λ j. j.due ≤ l.slots) (Within c (length ss)) l.queue (λ j a b. omega arith) i.due_ahead i.due_within in
    record { in_time_finishes = timely_finishes l ss w dues; finishes_in_time = finishes_timely l ss w }

pub in_line : (h : List Call) → InLine (ledger h).clock (ledger h).slots (ledger h).queue
in_line h =
    let l = ledger h in
    let w = ledger_sound h in
    assumption (w, each_left l.clock l.slots l.queue w.jobs, each_ahead l.clock l.slots l.queue w.jobs, each_map (Fair l.clock l.slots) (λ j. j.due ≤ l.slots) l.queue (λ j f. f.due_within) w.jobs)

-- ## Rivals are the sequences in time

pub rival_sequence : (l : Ledger) (ss : List ℕ) → Sorted l.clock l.queue → Rival l ss → Sequence l l.queue ss
rival_sequence l ss w r = record { each_slot = r.each_slot; listed = r.listed; in_time = finishes_timely l ss w r.finishes }

sequence_rival : (l : Ledger) (ss : List ℕ) → Sound l → Sequence l l.queue ss → Rival l ss
sequence_rival l ss w s = record {
  each_slot = s.each_slot;
  listed = s.listed;
  finishes = timely_finishes l ss (sound_sorted l w) (sound_within l (length ss) s.each_slot w) s.in_time;
}

plan_is_best : (l : Ledger) (t : Charges) (o : Order) → Sound l → IsBest l t o (plan_for l t o)
plan_is_best l t o w =
    let b = plan_best l t o w.possible.0 w.possible.1 in
    record {
      finishes = sequence_rival l (plan_for l t o) w b.0;
      none_below = λ rs r. b.1 rs (rival_sequence l rs (sound_sorted l w) r);
    }

-- ## Bookings

booking_is_exact : (l : Ledger) (j : Job) → Sound l → ExactVerdict l j (refusal l (booking j))
booking_is_exact l j w =
    let q = enter j l.queue in
    let verdict = refusal l (booking j) in
    let some : Passed l j → can_be_in_time l q ≡ true → (ss : List ℕ) × Rival (entered j l) ss = λ p h.
    (top_throughout l, sequence_rival (entered j l) (top_throughout l) (entered_sound l j w p h) (top_sequence l q w.lawful h)) in
    let can : Passed l j → (ss : List ℕ) → Rival (entered j l) ss → can_be_in_time l q ≡ true = λ p ss r.
    sequence_top l q w.lawful ss (rival_sequence (entered j l) ss (passed_sorted l j w p) r) in
    record {
      refused_rightly = λ e ss r. let b = not_in_time l j e in clash (sym b.1 ∙ can b.0 ss r);
      taken_rightly = λ e. let b = taken l j e in some b.0 b.1;
      refused_if_none = λ e none.
          let p = passed_none l j e in
          ⊎_elim (λ t. let s = some p t in absurd (none s.0 s.1)) (λ f. verdict_is l j p ∙ rw f) (cases_Bool (can_be_in_time l q));
      taken_if_some = λ e ss r. let p = passed_none l j e in verdict_is l j p ∙ rw (can p ss r);
    }

-- ## The promise

pub upheld : (l : Ledger) → Sound l → Upheld l
upheld l w = record {
  sound = w;
  nothing_overdue = each_ahead l.clock l.slots l.queue w.jobs;
  next_plan_is_best = λ t o. plan_is_best l t o w;
  next_booking_is_exact = λ j. booking_is_exact l j w;
}

pub promised : (h : List Call) (c : Call) → Promise h c
promised h c = record {
  at_the_call = upheld (ledger h) (ledger_sound h);
  answer_is_lawful = answer_lawful (ledger h) c (ledger_sound h);
  after_the_call = upheld (ledger (c ∷ h)) (ledger_sound (c ∷ h));
}

-- ## A measure's own values

pub measured_plan : {M : Type 0} {q : Kind M} (laws : Laws q) (l : Ledger) (t : Charges) → Sound l → MeasuredPlan q laws l t
measured_plan {M} {q} laws l t w =
    let y = pump_for l.speeds l.queue t.charge in
    let n = slots_left l in
    let k = l.clock in
    let same = sym (planned_image laws (decisions y) n k 0) in
    let b = plan_is_best l t (order_of laws) w in
    let best = pump_optimal (ranked laws) y n k 0 in
    let x = best.exists w.possible.0 (sequence_under l.speeds no_charge t.charge l.queue n k w.possible.0 w.possible.1) in
    let its = sym (best.planned_is_best x.0 x.1).measure ∙ ap (λ v. measure_of q (charges_from y k v)) same in
    record {
      by_the_rule = λ m i e. recursion (ranked laws) (decisions y) m i e;
      rises = (lawful_gives l.speeds w.lawful).rising;
      same_speeds = same;
      exists = (x.1.0, subst (IsLeast q (decisions y) n k 0 x.1.0) its x.1.1);
      finishes = b.finishes;
      none_below = b.none_below;
    }
