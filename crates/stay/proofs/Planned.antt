-- An accepted plan, on the ledger and in its own measure.
use Rattle.std.proofs.Common.{◌≡◌, ℕ, true, List, Ok, Err, sym, refl, ap, subst}
use Rattle.measure.specs.Kinds.{Kind, Laws, measure_of}
use Rattle.measure.specs.Orders.{order_of}
use Rattle.recursion.specs.Optimality.{IsLeast}
use Rattle.recursion.specs.Pumps.{decisions}
use Rattle.recursion.proofs.Ranked.{ranked}
use Rattle.recursion.proofs.Sequences.{pump_recursion}
use Rattle.ledger.specs.Answers.{planned}
use Rattle.ledger.specs.Ledger.{Ledger, Charges, Call, plan, planning, slots_left, pump_for, plan_for, charges_of, refusal, unless_refused, with_plan}
use Rattle.ledger.specs.SoundTest.{sound}
use Rattle.ledger.proofs.Promised.{measured_plan}
use Rattle.stay.specs.Calls.{Follows, OwnPlan}
use Rattle.stay.proofs.Ruling.{told_none}
use Rattle.stay.proofs.Steps.{sound_holds, accepted_sound, accepted_follows}

module _ {M : Type 0} {q : Kind M} (laws : Laws q) (l : Ledger) (t : Charges) (mark bytes measures : ℕ) where
  abbrev pub call : Call
  call = planning t (order_of laws) mark bytes measures

  abbrev pub the_charges : List ℕ
  the_charges = charges_of l t (plan_for l t (order_of laws))

  -- the ledger with a plan of mark k and speeds ss, the answer, and the measure m
  pub record Made (k : ℕ) (ss : List ℕ) (m : M) : Type 0 where
    pub sound_then : sound (with_plan (plan k ss) l) ≡ true
    pub follows : Follows l (with_plan (plan k ss) l) call (planned (slots_left l) the_charges)
    pub own : OwnPlan q t mark l (with_plan (plan k ss) l) m

  -- so it is if planning was told that measure, that mark and those speeds
  pub made : (k : ℕ) (ss : List ℕ) (m : M) → sound l ≡ true → Ok m ≡ unless_refused (refusal l call) Err (Ok (measure_of q the_charges)) → k ≡ mark → ss ≡ plan_for l t (order_of laws) → Made k ss m
  made k ss m holds told e is =
      let a = told_none (refusal l call) m (measure_of q the_charges) told in
      let same : with_plan (plan k ss) l ≡ with_plan (plan mark (plan_for l t (order_of laws))) l = cc in
      let b = measured_plan laws l t (sound_holds l holds) in
      let y = pump_for l.speeds l.queue t.charge in
      record {
        sound_then = accepted_sound l (with_plan (plan k ss) l) call holds a.1 same;
        follows = accepted_follows l (with_plan (plan k ss) l) call (planned (slots_left l) the_charges) holds a.1 same refl;
        own = record {
          speeds = plan_for l t (order_of laws);
          stands = ap (λ (v : Ledger). v.standing) same;
          planned = sym b.same_speeds;
          by_the_rule = pump_recursion (ranked laws) y;
          rises = b.rises;
          least = (b.exists.0, subst (IsLeast q (decisions y) (slots_left l) l.clock 0 b.exists.0) (sym a.0) b.exists.1);
          measure = a.0;
          finishes = b.finishes;
          none_below = λ rs r. subst (λ (v : M). q.not_above v (measure_of q (charges_of l t rs)) ≡ true) (sym a.0) (b.none_below rs r);
        };
      }
