-- The laws of the answers.
use Rattle.std.proofs.Common.{◌≡◌, ℕ, ◌+◌, ◌<◌, true, false, eqb, List, [], ◌∷◌, ◌++◌, None, refl, ap, ⊎_elim, arith}
use borrow.Author.Tests.{clash}
use Rattle.std.proofs.lemmas.Bool.{cond_both, cases_Bool, eqb-true}
use Rattle.ledger.specs.declared.job.Job.{Job}
use Rattle.ledger.specs.declared.refusal.Refusal.TheVariants.{NoSuchJob}
use Rattle.ledger.specs.Queue.{before, enter, Ordered, strike, work, pumped, units_pumped, finished}
use Rattle.ledger.specs.Ledger.{Ledger, Standing, no_plan, plan, Call, opening, booking, withdrawing, planning, running, refusal, is_open, left_of, is_planned, run_by}
use Rattle.ledger.specs.Answers.{booked, withdrew, ran, speed_now}
use Rattle.ledger.specs.AnswerLaws.{Entered, RunIsLawful, AcceptanceIsLawful, AnswerIsLawful}
use Rattle.ledger.specs.Sound.{PlanFits, Sound}
use Rattle.ledger.proofs.Queues.{each_map, goes_before, length_enter}
use Rattle.ledger.proofs.Slots.{units_arrived, slot_work, slot_count}
use Rattle.ledger.proofs.Booked.{rule_off}
use Rattle.ledger.proofs.Kept.{may_run}

-- ## Entering

entering : (j : Job) (q : List Job) → Ordered q → Entered j q (enter j q)
entering j [] o = record { front = []; back = []; was = refl; is = refl; ahead = tt; behind = tt }
entering j (i ∷ q) (o, os) =
    let w = entering j q os in
    cond_both (before i j) (i ∷ enter j q) (j ∷ i ∷ q) (Entered j (i ∷ q))
    (λ t. record { front = i ∷ w.front; back = w.back; was = ap (λ v. i ∷ v) w.was; is = ap (λ v. i ∷ v) w.is; ahead = (t, w.ahead); behind = w.behind })
    (λ f. record {
      front = [];
      back = i ∷ q;
      was = refl;
      is = refl;
      ahead = tt;
      behind = (f, each_map (λ x. before i x ≡ true) (λ x. before x j ≡ false) q (λ x b. (goes_before i j x f b).1) o);
    })

-- ## Striking out

record Struck (n : ℕ) (q : List Job) : Type 0 where
  front : List Job
  job : Job
  back : List Job
  its_number : job.number ≡ n
  was : q ≡ front ++ (job ∷ back)
  is : strike n q ≡ front ++ back
  its_left : left_of n q ≡ job.left
  falls : work q ≡ work (strike n q) + job.left

striking : (n : ℕ) (q : List Job) → is_open n q ≡ true → Struck n q
striking n [] h = absurd (clash h)
striking n (j ∷ q) h =
    ⊎_elim
    (λ t. record { front = []; job = j; back = q; its_number = eqb-true j.number n t; was = refl; is = rw t; its_left = rw t; falls = rw t (omega arith) })
    (λ f.
    let w = striking n q (rw f at h) in
    record {
      front = j ∷ w.front;
      job = w.job;
      back = w.back;
      its_number = w.its_number;
      was = ap (λ v. j ∷ v) w.was;
      is = rw f (ap (λ v. j ∷ v) w.is);
      its_left = rw f w.its_left;
      falls = rw f (let d = w.falls in omega arith);
    })
    (cases_Bool (eqb j.number n))

-- ## A slot

run_lawful : (l : Ledger) (p : Standing) → l.standing ≡ p → l.clock < l.slots → PlanFits l p → is_planned p ≡ true →
    RunIsLawful l (run_by p l) (ran (speed_now p) (units_pumped l.clock (speed_now p) l.queue) (finished (pumped l.clock (speed_now p) l.queue)))
run_lawful l no_plan e lt f h = cc
run_lawful l (plan mark []) e lt f h = let z = f.each_slot in absurd (omega arith)
run_lawful l (plan mark (s ∷ ss)) e lt f h =
    let gone = finished (pumped l.clock s l.queue) in
    record {
      mark = mark;
      speed = s;
      rest = ss;
      stood = e;
      queue = refl;
      gone = gone;
      answers = ap (λ (v : ℕ). ran s v gone) (units_arrived l.clock s l.queue);
      falls = slot_work l.clock s l.queue;
      count_falls = slot_count l.clock s l.queue;
      slots = refl;
      speeds = refl;
      clock = refl;
      standing = refl;
    }

-- ## All calls

accepted_lawful : (l : Ledger) (c : Call) → Sound l → refusal l c ≡ None → AcceptanceIsLawful l c
accepted_lawful l (opening n ss) w h = (rw h, rw h)
accepted_lawful l (booking j) w h = record {
  entered = rw h (entering j l.queue w.ordered);
  answers = rw h (ap booked (omega (arith, length_enter j l.queue)));
  only_queue = rw h (assumption);
}
accepted_lawful l (withdrawing n) w h =
    let s = striking n l.queue (rule_off NoSuchJob (is_open n l.queue) h) in
    record {
      front = s.front;
      job = s.job;
      back = s.back;
      its_number = s.its_number;
      was = s.was;
      is = rw h s.is;
      answers = rw h (ap withdrew s.its_left);
      falls = rw h s.falls;
      only_queue = rw h (assumption);
    }
accepted_lawful l (planning t o mark bytes measures) w h = (rw h, rw h (assumption))
accepted_lawful l running w h = let m = may_run l h in rw h (run_lawful l l.standing refl m.0 w.standing_fits m.1)

pub answer_lawful : (l : Ledger) (c : Call) → Sound l → AnswerIsLawful l c
answer_lawful l c w = record { refusal_is_lawful = λ r h. (rw h, rw h); acceptance_is_lawful = accepted_lawful l c w }
