-- One speed in every slot, slot by slot, and what it tells of room.
use Rattle.std.proofs.Common.{◌≡◌, ℕ, suc, ◌+◌, ◌-◌, ◌<◌, Bool, true, false, cond, ◌&&◌, leb, List, [], ◌∷◌, replicate, Option, None, Some, is_some, sym, refl, ap, ◌∙◌, subst, add-one, arith}
use Rattle.std.specs.ControlFlow.{continue_value}
use Rattle.std.specs.Fn.{Mut, Called}
use Rattle.std.specs.Iterator.{Yields, TryFoldTurn, TryFoldsItems}
use Rattle.std.specs.List.{FoldsTo}
use Rattle.std.specs.Option.{MatchOption}
use Rattle.std.specs.declared.ops.Range.{Range}
use Rattle.std.proofs.iter.Yields.{nat_range_steps}
use Rattle.std.proofs.lemmas.Option.{none-some, same_Some}
use Rattle.tariff.specs.Checks.{TestIsExact}
use Rattle.recursion.specs.Pumps.{Pump, work_after}
use Rattle.recursion.specs.Speeds.{lawful_speeds, top_of}
use Rattle.ledger.specs.declared.job.Job.{Job}
use Rattle.ledger.specs.Ledger.{Ledger, no_plan, pump_for, no_charge, keeps_time, top_throughout, can_be_in_time}
use Rattle.ledger.proofs.Plans.{sequence_top, top_sequence}
use Rattle.stay.specs.Room.{Room}

slot_more : (y : Pump) (slots k e s : ℕ) → k < slots → keeps_time y k e (replicate (slots - k) s) ≡ (leb (y.due (k + 1)) (work_after y k e s) && keeps_time y (k + 1) (work_after y k e s) (replicate (slots - (k + 1)) s))
slot_more y slots k e s h =
    let n : slots - k ≡ suc (slots - (k + 1)) = omega arith in
    ap (λ (v : ℕ). keeps_time y k e (replicate v s)) n
    ∙ ap (λ (v : ℕ). leb (y.due v) (work_after y k e s) && keeps_time y v (work_after y k e s) (replicate (slots - (k + 1)) s)) (sym (add-one k))

-- ## A fold that goes on while nothing is late

module _ {F : Type 0} (g : Mut F (ℕ × (ℕ × Unit {0})) (Option ℕ)) (f : F) (y : Pump) (s : ℕ) where
  -- the work done after slot k, if that is in time
  abbrev after : ℕ → ℕ → Option ℕ
  after k e = cond (leb (y.due (k + 1)) (work_after y k e s)) (Some (work_after y k e s)) None

  went : (k e d : ℕ) → after k e ≡ Some d → (leb (y.due (k + 1)) (work_after y k e s) ≡ true) × (work_after y k e s ≡ d)
  went k e d is = by (leb (y.due (k + 1)) (work_after y k e s)) is
    where
      by : (b : Bool) → cond b (Some (work_after y k e s)) None ≡ Some d → (b ≡ true) × (work_after y k e s ≡ d)
      by true h = (refl, same_Some (work_after y k e s) d h)
      by false h = absurd (none-some d h)

  broke : (k e : ℕ) → after k e ≡ None → leb (y.due (k + 1)) (work_after y k e s) ≡ false
  broke k e is = by (leb (y.due (k + 1)) (work_after y k e s)) is
    where
      by : (b : Bool) → cond b (Some (work_after y k e s)) None ≡ None → b ≡ false
      by true h = absurd (none-some (work_after y k e s) (sym h))
      by false h = refl

  kept : (k n e : ℕ) (b : Bool) → k < n → leb (y.due (k + 1)) (work_after y k e s) ≡ b → (b && keeps_time y (k + 1) (work_after y k e s) (replicate (n - (k + 1)) s)) ≡ keeps_time y k e (replicate (n - k) s)
  kept k n e b h is = sym (slot_more y n k e s h ∙ ap (λ (v : Bool). v && keeps_time y (k + 1) (work_after y k e s) (replicate (n - (k + 1)) s)) is)

  module _ (E : Type 0) (calls : (k e : ℕ) (v : Option ℕ) (h : F) → Called g f (e, (k, tt)) v h → (h ≡ f) × (v ≡ after k e)) where
    folded : (xs : List ℕ) (o : Option ℕ) (r t u : Range ℕ) (p : F) (e : ℕ) (j : F) (a : ℕ) (z : Option ℕ) → p ≡ f → Yields nat_range_steps r xs t → nat_range_steps t o u
        → FoldsTo (TryFoldTurn {E = E} g (λ v c. v ≡ continue_value c)) (p, e) xs (j, a)
        → MatchOption o (z ≡ Some a) (λ x. (v : Option ℕ) × (h : F) × (n : E) × Called g j (a, (x, tt)) v h × (v ≡ None) × (z ≡ None))
        → is_some z ≡ keeps_time y r.start e (replicate (r.end - r.start) s)
    folded [] None r t u p e j a z same run last went_to is =
        let none : r.end - r.start ≡ 0 = omega (arith, ap (λ (k : Range ℕ). k.end) run, ap (λ (k : Range ℕ). k.start) run, last.1.0) in
        ap is_some is ∙ sym (ap (λ (n : ℕ). keeps_time y r.start e (replicate n s)) none)
    folded [] (Some x) r t u p e j a z same run last went_to is =
        let some : r.start < r.end = omega (arith, ap (λ (k : Range ℕ). k.end) run, ap (λ (k : Range ℕ). k.start) run, last.1.0) in
        let at : x ≡ r.start = last.1.1 ∙ sym (ap (λ (k : Range ℕ). k.start) run) in
        let f_is : j ≡ f = sym (ap (λ (w : F × ℕ). w.0) went_to) ∙ same in
        let e_is : a ≡ e = sym (ap (λ (w : F × ℕ). w.1) went_to) in
        let told = (calls x a is.0 is.1 (subst (λ (w : F). Called g w (a, (x, tt)) is.0 is.1) f_is is.3)).1 in
        let none : after r.start e ≡ None = ap (λ (k : ℕ). after k e) (sym at) ∙ ap (after x) (sym e_is) ∙ sym told ∙ is.4 in
        ap is_some is.5 ∙ kept r.start r.end e false some (broke r.start e none)
    folded (x ∷ xs) o r t u p e j a z same run last went_to is =
        let first = run.1 in
        let some : r.start < r.end = omega (arith, first.1.0) in
        let told = calls x e went_to.1.0 went_to.0.0 (subst (λ (w : F). Called g w (e, (x, tt)) went_to.1.0 went_to.0.0) same went_to.1.1) in
        let on = went r.start e went_to.0.1 (ap (λ (k : ℕ). after k e) (sym first.1.1) ∙ sym told.1 ∙ went_to.1.2) in
        folded xs o run.0 t u went_to.0.0 went_to.0.1 j a z told.0 run.2 last went_to.2 is
        ∙ ap (λ (k : ℕ). keeps_time y k went_to.0.1 (replicate (run.0.end - k) s)) first.1.2
        ∙ ap (λ (k : ℕ). keeps_time y (r.start + 1) went_to.0.1 (replicate (k - (r.start + 1)) s)) first.0
        ∙ ap (λ (d : ℕ). keeps_time y (r.start + 1) d (replicate (r.end - (r.start + 1)) s)) (sym on.1)
        ∙ kept r.start r.end e true some on.0

    -- so it tells whether one speed is in time from the first slot to the last
    pub told_in_time : (r u : Range ℕ) (e : ℕ) (z : Option ℕ) → TryFoldsItems nat_range_steps g (λ v c. v ≡ continue_value c) (λ (n : E) v. v ≡ None) r f e z u → is_some z ≡ keeps_time y r.start e (replicate (r.end - r.start) s)
    told_in_time r u e z d = folded d.0 d.1 r d.4.0 u f e d.2 d.3 z refl d.4.1 d.4.2 d.5 d.6

-- top speed in time tells exactly that there is room
pub room_by_top : (slots clock top : ℕ) (speeds : List ℕ) (q : List Job) (r : Bool) → lawful_speeds speeds ≡ true → top ≡ top_of speeds → r ≡ keeps_time (pump_for speeds q no_charge) clock 0 (replicate (slots - clock) top) → TestIsExact (Room slots speeds clock q) r
room_by_top slots clock top speeds q r h e is =
    let l : Ledger = record { slots = slots; speeds = speeds; clock = clock; queue = q; standing = no_plan } in
    let same = is ∙ ap (λ (s : ℕ). keeps_time (pump_for speeds q no_charge) clock 0 (replicate (slots - clock) s)) e in
    record { passes = λ p. same ∙ sequence_top l q h p.0 p.1; keeps = λ yes. (top_throughout l, top_sequence l q h (sym same ∙ yes)) }

-- two exact tests of one thing agree
same_tests : {P : Type 0} (a b : Bool) → TestIsExact P a → TestIsExact P b → a ≡ b
same_tests true b x y = sym (y.passes (x.keeps refl))
same_tests false true x y = x.passes (y.keeps refl)
same_tests false false x y = refl

-- so an exact test for room is the ledger's
pub room_as_told : (l : Ledger) (q : List Job) (r : Bool) → lawful_speeds l.speeds ≡ true → TestIsExact (Room l.slots l.speeds l.clock q) r → r ≡ can_be_in_time l q
room_as_told l q r h exact =
    same_tests r (can_be_in_time l q) exact (room_by_top l.slots l.clock (top_of l.speeds) l.speeds q (can_be_in_time l q) h refl refl)
