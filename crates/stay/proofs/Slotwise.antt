-- A slot run: the call of running on the parts of a stay.
use Rattle.std.proofs.Common.{◌≡◌, ℕ, suc, ◌+◌, ◌-◌, ◌<◌, ◌≤◌, true, false, List, ◌∷◌, length, get_or, take, drop, Some, None, Err, Option, is_some, sym, refl, ap, ◌∙◌, add-one, arith}
use Rattle.std.specs.Option.{ok_or}
use Rattle.std.proofs.lemmas.List.{drop_more}
use Rattle.std.proofs.lemmas.Bool.{le-leb, lt-leb}
use Rattle.ledger.specs.declared.job.Job.{Job}
use Rattle.ledger.specs.declared.refusal.Refusal.{Refusal}
use Rattle.ledger.specs.declared.refusal.Refusal.TheVariants.{StayOver, NotPlanned}
use Rattle.ledger.specs.Answers.{ran, speed_now, answered}
use Rattle.ledger.specs.Ledger.{Ledger, Standing, plan, running, is_planned, refusal, with_plan, slot_run, run_by, accepted}
use Rattle.ledger.specs.Queue.{pumped, units_pumped, finished, pump_slot}
use Rattle.stay.specs.declared.plan_record.PlanRecord.{PlanRecord}
use Rattle.stay.specs.declared.speed_list.SpeedList.{SpeedList}
use Rattle.stay.specs.declared.table.Table.{Table}
use Rattle.stay.specs.Image.{standing_of, image}
use Rattle.stay.specs.Jobs.{queue_of}
use Rattle.stay.proofs.Ruling.{rule_told, running_rules}

pub stay_over : (l : Ledger) → l.slots ≤ l.clock → refusal l running ≡ Some StayOver
stay_over l h = running_rules l true (is_planned l.standing) (sym (le-leb l.slots l.clock h)) refl

stands : (slots clock : ℕ) (o : Option PlanRecord) → is_some o ≡ is_planned (standing_of slots clock o)
stands slots clock None = refl
stands slots clock (Some p) = refl

pub not_planned : (slots clock : ℕ) (speeds : SpeedList) (t : Table Job) (o : Option PlanRecord) (r : Refusal) → clock < slots → Err r ≡ ok_or o NotPlanned → refusal (image slots speeds clock t o) running ≡ Some r
not_planned slots clock speeds t o r h e = running_rules (image slots speeds clock t o) false (is_some o) (sym (lt-leb slots clock h)) (stands slots clock o) ∙ rule_told o NotPlanned r e

-- running is not refused: it leaves the ledger m, and the slot is run at speed s
pub record Runs (l m : Ledger) (s : ℕ) : Type 0 where
  pub allowed : refusal l running ≡ None
  pub step : m ≡ accepted l running
  pub says : ran s (units_pumped l.clock s l.queue) (finished (pumped l.clock s l.queue)) ≡ answered l running

by_plan : (l : Ledger) (mark s : ℕ) (ss : List ℕ) → l.clock < l.slots → l.standing ≡ plan mark (s ∷ ss) → Runs l (with_plan (plan mark ss) (slot_run s l)) s
by_plan l mark s ss h e = record {
  allowed = running_rules l false true (sym (lt-leb l.slots l.clock h)) (sym (ap is_planned e));
  step = sym (ap (λ (p : Standing). run_by p l) e);
  says = sym (ap (λ (p : Standing). ran (speed_now p) (units_pumped l.clock (speed_now p) l.queue) (finished (pumped l.clock (speed_now p) l.queue))) e);
}

-- the speeds of the slots not yet run: the next one, and those after it
speeds_left : (slots clock : ℕ) (sp : List ℕ) → clock < slots → slots ≤ length sp → take (slots - clock) (drop clock sp) ≡ get_or sp clock 0 ∷ take (slots - (clock + 1)) (drop (clock + 1) sp)
speeds_left slots clock sp h b =
    let e : slots - clock ≡ suc (slots - (clock + 1)) = omega arith in
    ap (λ (n : ℕ). take n (drop clock sp)) e ∙ ap (take (suc (slots - (clock + 1)))) (drop_more sp clock 0 (omega arith))

pub slot_runs : (slots clock : ℕ) (speeds : SpeedList) (t u : Table Job) (p : PlanRecord) → clock < slots → slots ≤ length p.speeds → queue_of u ≡ pump_slot clock (get_or p.speeds clock 0) (queue_of t) →
    Runs (image slots speeds clock t (Some p)) (image slots speeds (clock + 1) u (Some p)) (get_or p.speeds clock 0)
slot_runs slots clock speeds t u p h b q =
    let s = get_or p.speeds clock 0 in
    let ss = take (slots - (clock + 1)) (drop (clock + 1) p.speeds) in
    let l = image slots speeds clock t (Some p) in
    let r = by_plan l p.mark s ss h (ap (plan p.mark) (speeds_left slots clock p.speeds h b)) in
    let next = add-one clock in
    let same : image slots speeds (clock + 1) u (Some p) ≡ with_plan (plan p.mark ss) (slot_run s l) = cc in
    record { allowed = r.allowed; step = same ∙ r.step; says = r.says }
