-- A call on a stay is a call on the ledger.
use Rattle.std.proofs.Common.{◌≡◌, true, List, Some, None, Option, Ok, Err, Result, IsErrAnd, sym, ap, ◌∙◌, subst}
use Rattle.ledger.specs.declared.job.Job.{Job}
use Rattle.ledger.specs.declared.refusal.Refusal.{Refusal}
use Rattle.ledger.specs.Answers.{Answer, refused, answered, answer}
use Rattle.ledger.specs.Ledger.{Ledger, Call, booking, refusal, accepted, unless_refused, after, ledger}
use Rattle.ledger.specs.Promise.{ExactVerdict}
use Rattle.ledger.specs.Sound.{Sound}
use Rattle.ledger.specs.SoundTest.{sound}
use Rattle.ledger.proofs.Answered.{answer_lawful}
use Rattle.ledger.proofs.Kept.{after_sound}
use Rattle.ledger.proofs.Promised.{upheld, promised}
use Rattle.ledger.proofs.Tested.{sound_is_tested}
use Rattle.stay.specs.Calls.{OnLedger, Follows, answer_of}

-- what a stay holds is sound
pub sound_holds : (l : Ledger) → sound l ≡ true → Sound l
sound_holds l h = (sound_is_tested l).0 h

-- so is what a call leaves
pub still_sound : (l m : Ledger) (c : Call) → sound l ≡ true → m ≡ after l c → sound m ≡ true
still_sound l m c h e = subst (λ (v : Ledger). sound v ≡ true) (sym e) ((sound_is_tested (after l c)).1 (after_sound l c (sound_holds l h)))

-- after every list of calls
pub on_ledger : (l m : Ledger) (c : Call) (a : Answer) → m ≡ after l c → a ≡ answer l c → (h : List Call) → l ≡ ledger h → OnLedger h c m a
on_ledger l m c a e f h is = record {
  same = e ∙ ap (λ (v : Ledger). after v c) is;
  answered = f ∙ ap (λ (v : Ledger). answer v c) is;
  promise = promised h c;
}

-- the step and the answer give the rest
pub follows : (l m : Ledger) (c : Call) (a : Answer) → sound l ≡ true → m ≡ after l c → a ≡ answer l c → Follows l m c a
follows l m c a h e f = record {
  step = e;
  answered = f;
  lawful = answer_lawful l c (sound_holds l h);
  upheld_before = upheld l (sound_holds l h);
  upheld = upheld m (sound_holds m (still_sound l m c h e));
  on_every_history = λ k is. on_ledger l m c a e f k is;
}

-- a refusal leaves the ledger as it was
pub refused_follows : (l : Ledger) (c : Call) (r : Refusal) → sound l ≡ true → refusal l c ≡ Some r → Follows l l c (refused r)
refused_follows l c r h e = follows l l c (refused r) h
    (sym (ap (λ (x : Option Refusal). unless_refused x (λ _. l) (accepted l c)) e))
    (sym (ap (λ (x : Option Refusal). unless_refused x refused (answered l c)) e))

-- as a result hands it on
pub err_follows : {X : Type 0} (f : X → Answer) (l : Ledger) (c : Call) (r : Refusal) (s : Result X Refusal) → IsErrAnd s (λ e. e ≡ r) → sound l ≡ true → refusal l c ≡ Some r → Follows l l c (answer_of f s)
err_follows f l c r (Ok x) is h told = absurd is
err_follows f l c r (Err e) is h told = refused_follows l c e h (told ∙ ap Some (sym is))

pub accepted_step : (l m : Ledger) (c : Call) → refusal l c ≡ None → m ≡ accepted l c → m ≡ after l c
accepted_step l m c e is = is ∙ sym (ap (λ (x : Option Refusal). unless_refused x (λ _. l) (accepted l c)) e)

-- what an accepted call leaves is sound
pub accepted_sound : (l m : Ledger) (c : Call) → sound l ≡ true → refusal l c ≡ None → m ≡ accepted l c → sound m ≡ true
accepted_sound l m c h e is = still_sound l m c h (accepted_step l m c e is)

pub accepted_follows : (l m : Ledger) (c : Call) (a : Answer) → sound l ≡ true → refusal l c ≡ None → m ≡ accepted l c → a ≡ answered l c → Follows l m c a
accepted_follows l m c a h e is says = follows l m c a h (accepted_step l m c e is) (says ∙ sym (ap (λ (x : Option Refusal). unless_refused x refused (answered l c)) e))

-- the verdict on a booking is exact
pub exact_verdict : (l : Ledger) (j : Job) (v : Option Refusal) → sound l ≡ true → refusal l (booking j) ≡ v → ExactVerdict l j v
exact_verdict l j v h e = subst (ExactVerdict l j) e ((upheld l (sound_holds l h)).next_booking_is_exact j)
