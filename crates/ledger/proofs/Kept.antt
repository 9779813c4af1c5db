-- Every call keeps a ledger sound.
use Rattle.std.proofs.Common.{◌≡◌, ℕ, suc, ◌-◌, ◌<◌, ◌≤◌, Bool, true, not, ◌||◌, eqb, ltb, leb, List, [], ◌∷◌, length, Some, None, Option, refl, arith}
use Rattle.std.proofs.lemmas.Bool.Decides.{nat_tests}
use Rattle.measure.specs.Orders.{Order}
use Rattle.recursion.specs.Speeds.{lawful_speeds}
use Rattle.ledger.specs.declared.job.Job.{Job}
use Rattle.ledger.specs.declared.refusal.Refusal.{Refusal}
use Rattle.ledger.specs.declared.refusal.Refusal.TheVariants.{SlotCount, SpeedList, StayOver, NotPlanned}
use Rattle.ledger.specs.Limits.{most_slots, most_jobs, most_work}
use Rattle.ledger.specs.Queue.{Each, Distinct, Apart, Unnested, before, enter, strike, work, pumped, pump_slot}
use Rattle.ledger.specs.Ledger.{Ledger, Standing, no_plan, plan, Charges, Call, opening, booking, withdrawing, planning, running, slots_left, Sequence, top_throughout, can_be_in_time, plan_for, is_planned, rule, refusal, with_plan, with_queue, entered, slot_run, run_by, accepted, unless_refused, after, new, ledger}
use Rattle.ledger.specs.Sound.{Fair, PlanFits, Sound}
use Rattle.ledger.proofs.Queues.{each_map, each_zip, lined, unnested_later, each_enter, pairs_enter, ordered_enter, length_enter, work_enter, each_strike, pairs_strike, length_strike, work_strike}
use Rattle.ledger.proofs.Slots.{each_slot, open_left, ordered_slot, unnested_slot, distinct_slot, slot_work, slot_count}
use Rattle.ledger.proofs.Times.{Sorted, Within, in_time_ends, ends_in_time, struck_in_time, slot_ends, slot_dues, slot_sorted}
use Rattle.ledger.proofs.Plans.{plan_best, top_sequence, decides_top, idle_in_time}
use Rattle.ledger.proofs.Booked.{Passed, taken, closed_apart, unnested_apart, passed_fair, passed_room}

-- ## A sound ledger's queue

pub each_left : (c n : ℕ) (q : List Job) → Each (Fair c n) q → Each (λ j. 1 ≤ j.left) q
each_left c n q = each_map (Fair c n) (λ j. 1 ≤ j.left) q (λ j f. f.some_left)

pub each_ahead : (c n : ℕ) (q : List Job) → Each (Fair c n) q → Each (λ j. c < j.due) q
each_ahead c n q = each_map (Fair c n) (λ j. c < j.due) q (λ j f. f.due_ahead)

pub sound_sorted : (l : Ledger) → Sound l → Sorted l.clock l.queue
sound_sorted l w = record { line = lined l.clock l.queue w.ordered w.unnested; apart = w.distinct; some_left = each_left l.clock l.slots l.queue w.jobs }

pub sound_within : (l : Ledger) (n : ℕ) → n ≡ slots_left l → Sound l → Each (Within l.clock n) l.queue
sound_within l n e w = each_map (Fair l.clock l.slots) (Within l.clock n) l.queue (λ j f. omega arith) w.jobs

-- a ledger just opened
abbrev just_opened : ℕ → List ℕ → Ledger
just_opened n ss = record { slots = n; speeds = ss; clock = 0; queue = []; standing = no_plan }

-- ## Opening

opening_passes : (n : ℕ) (lawful : Bool) → rule SlotCount (eqb n 0 || ltb most_slots n) (rule SpeedList (not lawful) None) ≡ None → (1 ≤ n) × (n ≤ most_slots) × (lawful ≡ true)
opening_passes n lawful h = grind (arith, nat_tests)

just_opened_sound : (n : ℕ) (ss : List ℕ) → 1 ≤ n → n ≤ most_slots → lawful_speeds ss ≡ true → Sound (just_opened n ss)
just_opened_sound n ss some few lawful =
    let m = just_opened n ss in
    let possible : (ts : List ℕ) × Sequence m [] ts = (top_throughout m, top_sequence m [] lawful ((decides_top m []).1 (idle_in_time ss 0 0 (top_throughout m)))) in
    let nought : (0 ≤ n) × (0 ≤ most_jobs) × (0 ≤ most_work) = omega arith in
    assumption

opening_sound : (l : Ledger) (n : ℕ) (ss : List ℕ) → refusal l (opening n ss) ≡ None → Sound (just_opened n ss)
opening_sound l n ss h = let a = opening_passes n (lawful_speeds ss) h in just_opened_sound n ss a.0 a.1 a.2

-- ## Booking

passed_distinct : (l : Ledger) (j : Job) → Sound l → Passed l j → Distinct (enter j l.queue)
passed_distinct l j w p = pairs_enter (λ j i. i.number ≡ j.number → ⊥) j l.queue (closed_apart j.number l.queue p.closed) w.distinct

passed_unnested : (l : Ledger) (j : Job) → Sound l → Passed l j → Unnested l.clock (enter j l.queue)
passed_unnested l j w p = pairs_enter (Apart l.clock) j l.queue (unnested_apart l.clock j l.queue p.apart) w.unnested

passed_jobs : (l : Ledger) (j : Job) → Sound l → Passed l j → Each (Fair l.clock l.slots) (enter j l.queue)
passed_jobs l j w p = each_enter (Fair l.clock l.slots) j l.queue (passed_fair l j p) w.jobs

pub passed_sorted : (l : Ledger) (j : Job) → Sound l → Passed l j → Sorted l.clock (enter j l.queue)
passed_sorted l j w p =
    let q = enter j l.queue in
    assumption (lined l.clock q (ordered_enter j l.queue w.ordered) (passed_unnested l j w p), passed_distinct l j w p, each_left l.clock l.slots q (passed_jobs l j w p))

pub entered_sound : (l : Ledger) (j : Job) → Sound l → Passed l j → can_be_in_time l (enter j l.queue) ≡ true → Sound (entered j l)
entered_sound l j w p h =
    let q = enter j l.queue in
    let r = passed_room l j p in
    let few : length q ≤ most_jobs = omega (arith, length_enter j l.queue) in
    let light : work q ≤ most_work = omega (arith, work_enter j l.queue) in
    let possible : (ss : List ℕ) × Sequence l q ss = (top_throughout l, top_sequence l q w.lawful h) in
    assumption (passed_jobs l j w p, passed_distinct l j w p, ordered_enter j l.queue w.ordered, passed_unnested l j w p)

-- ## Withdrawing

struck_sound : (l : Ledger) (n : ℕ) → Sound l → Sound (with_queue (strike n l.queue) l)
struck_sound l n w =
    let q = l.queue in
    let r = w.possible.1 in
    let few : length (strike n q) ≤ most_jobs = (let f = w.few in omega (arith, length_strike n q)) in
    let light : work (strike n q) ≤ most_work = (let f = w.light in omega (arith, work_strike n q)) in
    let timely = struck_in_time l.speeds l.clock n w.possible.0 q (sound_sorted l w).line r.in_time in
    let possible : (ss : List ℕ) × Sequence l (strike n q) ss = (w.possible.0, record { each_slot = r.each_slot; listed = r.listed; in_time = timely }) in
    assumption (
      each_strike (Fair l.clock l.slots) n q w.jobs,
      pairs_strike (λ j i. i.number ≡ j.number → ⊥) n q w.distinct,
      pairs_strike (λ j i. before j i ≡ true) n q w.ordered,
      pairs_strike (Apart l.clock) n q w.unnested,
    )

-- ## Planning

planned_sound : (l : Ledger) (t : Charges) (o : Order) (mark : ℕ) → Sound l → Sound (with_plan (plan mark (plan_for l t o)) l)
planned_sound l t o mark w = assumption (plan_best l t o w.possible.0 w.possible.1).0

-- ## Running

slot_fair : (c n s : ℕ) (q : List Job) → Each (Fair c n) q → Each (λ j. suc c < j.due) (pump_slot c s q) → Each (Fair (suc c) n) (pump_slot c s q)
slot_fair c n s q fs ds =
    let G : Job → Type 0 = λ j. suc c < j.due → Fair (suc c) n j in
    let F : Job → Type 0 = λ j. 1 ≤ j.left → G j in
    let r = pump_slot c s q in
    let gs = each_slot F c s q (λ u j f some due. let g = f (omega arith) due in omega arith) (each_map (Fair c n) F q (λ j f some due. omega arith) fs) in
    each_zip G (λ j. suc c < j.due) (Fair (suc c) n) r (λ j g due. g due) (each_zip F (λ j. 1 ≤ j.left) G r (λ j g some. g some) gs (open_left (pumped c s q))) ds

run_sound : (l : Ledger) (p : Standing) → Sound l → l.clock < l.slots → PlanFits l p → is_planned p ≡ true → Sound (run_by p l)
run_sound l no_plan w lt f h = cc
run_sound l (plan mark []) w lt f h = let z = f.each_slot in absurd (omega arith)
run_sound l (plan mark (s ∷ ss)) w lt f h =
    let c = l.clock in
    let q = l.queue in
    let r = pump_slot c s q in
    let count : length ss ≡ l.slots - suc c = (let z = f.each_slot in omega arith) in
    let ends = in_time_ends c l.speeds (s ∷ ss) q (sound_sorted l w) (sound_within l (suc (length ss)) f.each_slot w) f.in_time in
    let dues = each_ahead c l.slots q w.jobs in
    let timely = ends_in_time (suc c) l.speeds ss r (slot_sorted c s q w.ordered w.unnested w.distinct) (slot_ends c s ss q dues ends) in
    let rest : Sequence (slot_run s l) r ss = record { each_slot = count; listed = f.listed.1; in_time = timely } in
    let few : length r ≤ most_jobs = (let z = w.few in omega (arith, slot_count c s q)) in
    let light : work r ≤ most_work = (let z = w.light in omega (arith, slot_work c s q)) in
    let possible : (ts : List ℕ) × Sequence (slot_run s l) r ts = (ss, rest) in
    assumption (
      slot_fair c l.slots s q w.jobs (slot_dues c s ss q dues ends),
      distinct_slot c s q w.distinct,
      ordered_slot c s q w.ordered,
      unnested_later c r (unnested_slot c c s q w.unnested),
    )

-- a slot is run only before the end, by a plan
pub may_run : (l : Ledger) → refusal l running ≡ None → (l.clock < l.slots) × (is_planned l.standing ≡ true)
may_run l h = run_passes l.clock l.slots (is_planned l.standing) h
  where
    run_passes : (clock slots : ℕ) (planned : Bool) → rule StayOver (leb slots clock) (rule NotPlanned (not planned) None) ≡ None → (clock < slots) × (planned ≡ true)
    run_passes clock slots planned h = grind (arith, nat_tests)

-- ## All calls

accepted_sound : (l : Ledger) (c : Call) → Sound l → refusal l c ≡ None → Sound (accepted l c)
accepted_sound l (opening n ss) w h = opening_sound l n ss h
accepted_sound l (booking j) w h = let b = taken l j h in entered_sound l j w b.0 b.1
accepted_sound l (withdrawing n) w h = struck_sound l n w
accepted_sound l (planning t o mark bytes measures) w h = planned_sound l t o mark w
accepted_sound l running w h = let m = may_run l h in run_sound l l.standing w m.0 w.standing_fits m.1

unless_sound : (r : Option Refusal) (l m : Ledger) → Sound l → (r ≡ None → Sound m) → Sound (unless_refused r (λ _. l) m)
unless_sound None l m w f = f refl
unless_sound (Some n) l m w f = w

new_sound : Sound new
new_sound = just_opened_sound 1 (0 ∷ 1 ∷ []) (omega arith) (omega arith) refl

pub after_sound : (l : Ledger) (c : Call) → Sound l → Sound (after l c)
after_sound l c w = unless_sound (refusal l c) l (accepted l c) w (accepted_sound l c w)

pub ledger_sound : (h : List Call) → Sound (ledger h)
ledger_sound [] = new_sound
ledger_sound (c ∷ h) = after_sound (ledger h) c (ledger_sound h)
