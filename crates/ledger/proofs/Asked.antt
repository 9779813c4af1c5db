-- The laws of the questions.
use Rattle.std.proofs.Common.{◌≡◌, ℕ, zero, suc, ◌-◌, ◌<◌, ◌≤◌, Bool, true, false, cond, ltb, List, [], ◌∷◌, length, Some, None, Option, sym, refl, arith}
use borrow.Author.Tests.{clash}
use Rattle.std.proofs.lemmas.Bool.{lt-ltb, le-ltb}
use Rattle.recursion.specs.Pumps.{Listed}
use Rattle.recursion.specs.Staged.{In}
use Rattle.ledger.specs.Ledger.{Ledger, Standing, no_plan, plan, Call, is_planned, ledger}
use Rattle.ledger.specs.Answers.{speed_now, at, standing_speeds, standing_mark}
use Rattle.ledger.specs.QuestionLaws.{QuestionsAreLawful}
use Rattle.ledger.specs.Sound.{PlanFits, Sound}
use Rattle.ledger.proofs.Kept.{may_run, ledger_sound}

at_below : {X : Type 0} (xs : List X) (i : ℕ) → i < length xs → (x : X) × (at xs i ≡ Some x)
at_below [] i h = absurd (omega arith)
at_below (x ∷ xs) zero h = (x, refl)
at_below (x ∷ xs) (suc i) h = at_below xs i (omega arith)

at_past : {X : Type 0} (xs : List X) (i : ℕ) → length xs ≤ i → at xs i ≡ None
at_past [] i h = refl
at_past (x ∷ xs) zero h = absurd (omega arith)
at_past (x ∷ xs) (suc i) h = at_past xs i (omega arith)

listed_at : (speeds ss : List ℕ) (i : ℕ) → Listed speeds ss → i < length ss → (s : ℕ) × In s speeds × (at ss i ≡ Some s)
listed_at speeds [] i l h = absurd (omega arith)
listed_at speeds (s ∷ ss) zero (l, ls) h = (s, l, refl)
listed_at speeds (s ∷ ss) (suc i) (l, ls) h = listed_at speeds ss i ls (omega arith)

-- what a plan answers for slot k
abbrev asked : Ledger → Standing → ℕ → Option ℕ
asked l p k = cond (ltb k l.clock) None (at (standing_speeds p) (k - l.clock))

speed_ahead : (l : Ledger) (p : Standing) → PlanFits l p → is_planned p ≡ true → (k : ℕ) → l.clock ≤ k → k < l.slots → (s : ℕ) × In s l.speeds × (asked l p k ≡ Some s)
speed_ahead l no_plan f h k ck ks = cc
speed_ahead l (plan mark ss) f h k ck ks =
    let n = f.each_slot in
    let w = listed_at l.speeds ss (k - l.clock) f.listed (omega arith) in
    (w.0, w.1, rw (le-ltb k l.clock ck) w.2)

speed_past : (l : Ledger) (p : Standing) → PlanFits l p → (k : ℕ) → l.slots ≤ k → at (standing_speeds p) (k - l.clock) ≡ None
speed_past l no_plan f k h = refl
speed_past l (plan mark ss) f k h = let n = f.each_slot in at_past ss (k - l.clock) (omega arith)

no_speed : (b : Bool) (o : Option ℕ) → o ≡ None → cond b None o ≡ None
no_speed b o h = grind arith

marked : (p : Standing) → is_planned p ≡ true → (m : ℕ) × (standing_mark p ≡ Some m)
marked no_plan h = cc
marked (plan mark ss) h = (mark, refl)

no_speeds : (p : Standing) → is_planned p ≡ false → (standing_speeds p ≡ []) × (standing_mark p ≡ None)
no_speeds no_plan h = (refl, refl)
no_speeds (plan mark ss) h = absurd (clash (sym h))

speed_next : (l : Ledger) (p : Standing) → PlanFits l p → is_planned p ≡ true → l.clock < l.slots → asked l p l.clock ≡ Some (speed_now p)
speed_next l no_plan f h lt = cc
speed_next l (plan mark []) f h lt = let n = f.each_slot in absurd (omega arith)
speed_next l (plan mark (s ∷ ss)) f h lt =
    let z : l.clock - l.clock ≡ 0 = omega arith in
    rw (le-ltb l.clock l.clock (omega arith), z)

pub questions_lawful : (l : Ledger) → Sound l → QuestionsAreLawful l
questions_lawful l w =
    let p = l.standing in
    record {
      job_below = at_below l.queue;
      no_job_past = at_past l.queue;
      speed_ahead = speed_ahead l p w.standing_fits;
      no_speed_run = λ k h. rw (lt-ltb k l.clock h);
      no_speed_past = λ k h. no_speed _ _ (speed_past l p w.standing_fits k h);
      mark_while_planned = marked p;
      no_speed_unplanned = λ h k. no_speed _ (at (standing_speeds p) (k - l.clock)) (rw (no_speeds p h).0);
      no_mark_unplanned = λ h. (no_speeds p h).1;
      speed_next = λ h. let m = may_run l h in speed_next l p w.standing_fits m.1 m.0;
    }

pub asked_lawfully : (h : List Call) → QuestionsAreLawful (ledger h)
asked_lawfully h = questions_lawful (ledger h) (ledger_sound h)
