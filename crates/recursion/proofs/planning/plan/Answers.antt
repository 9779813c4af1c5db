use Rattle.std.proofs.Common.{◌≡◌, Result, true, false, List, ℕ, length, Err, sym, ap, ◌∙◌, subst, rules}
use Rattle.recursion.specs.Planning.{least_or, Promised}
use Rattle.recursion.specs.Pumps.{PlanIsBest, planned_speeds}
use Rattle.recursion.specs.Speeds.{lawful_speeds, top_of}
use Rattle.recursion.specs.Windows.{keeps_up}
use Rattle.recursion.specs.Work.{pump_of}
use Rattle.recursion.specs.declared.unplanned.Unplanned.{Unplanned}
use Rattle.recursion.specs.declared.unplanned.Unplanned.TheVariants.{Late}
use Rattle.recursion.proofs.Ranked.{ranked}
use Rattle.recursion.proofs.Optimum.{none_best}
use Rattle.recursion.proofs.Sequences.{pump_optimal}
use Rattle.recursion.proofs.Feeding.{feeds_pump}
use Rattle.recursion.proofs.Rising.{lawful_gives}
use Rattle.recursion.proofs.Answering.{late_none, answer_least, first_planned}
use Rattle.recursion.proofs.planning.plan.Goals as goal

pub returns-in_err-reach : goal.returns-in_err-reach
returns-in_err-reach g c =
    let q = g.M.Measure.kind in
    let laws = ranked g.M.Measure.laws in
    let charge = g.T.Tariff.charge c.args.tariff.now in
    let ss = c.args.speeds.now in
    let first = c.args.first in
    let work = c.args.work.now in
    let y = pump_of ss first work charge in
    let lawful : lawful_speeds ss ≡ true = search rules in
    let late : keeps_up (top_of ss) work 0 ≡ false = search rules in
    let nothing = late_none laws y (top_of ss) (lawful_gives ss lawful).under_top first work (feeds_pump ss first work charge) late in
    let told : c.from_residual-in_err-reach.result ≡ Err Late = search rules in
    record {
      answer = told ∙ sym (answer_least q y first work (length c.args.bytes.now) (length c.args.measures.now) (length c.args.chosen.now) (search rules) lawful (search rules) ∙ ap least_or nothing);
      chosen = search rules;
      promise = subst (λ (r : Result g.row.M.Denot Unplanned). Promised q y (length work) first c.args.chosen.now r) (sym told) (λ rs in_time. let w = (pump_optimal laws y (length work) first 0).exists rs in_time in none_best w.1.0 w.0 (sym nothing ∙ w.1.1));
      bytes = search rules;
      measures = search rules;
    }

pub returns : goal.returns
returns g c =
    let q = g.M.Measure.kind in
    let laws = ranked g.M.Measure.laws in
    let charge = g.T.Tariff.charge c.args.tariff.now in
    let slots = c.new-slots.result in
    let ss = c.in_ok-speeds.speeds.listed.now in
    let work = slots.work.now in
    let y = pump_of ss slots.first work charge in
    let chosen : c.follow.new.chosen ≡ planned_speeds q y (length work) slots.first 0 =
    c.follow.ensures ∙ first_planned laws y (top_of ss) (lawful_gives ss c.in_ok-speeds.speeds.lawful).under_top slots.first work (feeds_pump ss slots.first work charge) (search rules) slots.width c.fill-least.new.bytes c.fill-least.ensures.table in
    let promise : PlanIsBest q y (length work) slots.first 0 c.fill-least.result c.follow.new.chosen =
    subst (λ (cs : List ℕ). PlanIsBest q y (length work) slots.first 0 c.fill-least.result cs) (sym chosen) ((pump_optimal laws y (length work) slots.first 0).planned_is_best c.fill-least.result c.fill-least.ensures.answer) in
    record {
      answer = search rules;
      chosen = rw (c.in_ok-speeds.ensures, c.new-slots.ensures.0, c.new-slots.ensures.1) at chosen;
      promise = rw (c.in_ok-speeds.ensures, c.new-slots.ensures.0, c.new-slots.ensures.1) at promise;
      bytes = search rules;
      measures = search rules;
    }
