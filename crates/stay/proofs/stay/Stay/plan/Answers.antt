use Rattle.std.proofs.Common.{◌-◌, length, take, drop, ap, ◌∙◌}
use Rattle.measure.specs.Orders.{order_of}
use Rattle.ledger.specs.Ledger.{planning, slots_left, refusal}
use Rattle.stay.specs.declared.plan_record.PlanRecord.{PlanRecord}
use Rattle.stay.specs.Contents.{contents}
use Rattle.stay.specs.Tariffs.{charges_by}
use Rattle.stay.proofs.Planned.{Made, made}
use Rattle.stay.proofs.Ruling.{told_which}
use Rattle.stay.proofs.Steps.{err_follows}
use Rattle.stay.proofs.stay.Stay.plan.Given as given
use Rattle.stay.proofs.stay.Stay.plan.Goals as goal
use Rattle.stay.proofs.stay.Stay.plan.Goals.{In_ok-measure}

pub returns-in_err-measure-clause-follows : goal.returns-in_err-measure-clause-follows
returns-in_err-measure-clause-follows g c =
    let me = c.args.self.now in
    let l = contents me in
    let call = planning (charges_by g.T.Tariff.charge g.T.Tariff.bounded c.args.tariff.now) (order_of g.M.Measure.laws) g.M.Measure.MARK (length c.args.bytes.now) (length c.args.measures.now) in
    let r = c.in_err-measure.field-0.0 in
    err_follows _ l call r _ c.from_residual.ensures.1 me.sound (told_which (refusal l call) r _ c.in_err-measure.ensures.answer)

-- the plan on the ledger
taken : (g : given.Over) (c : In_ok-measure g) →
    let me = c.args.self.now in
    let best = c.blank-best.result in
    Made g.M.Measure.laws (contents me) (charges_by g.T.Tariff.charge g.T.Tariff.bounded c.args.tariff.now) g.M.Measure.MARK (length c.args.bytes.now) (length c.args.measures.now) best.mark
    (take (me.slots - me.clock) (drop me.clock c.best_speeds.new.speeds)) c.in_ok-measure.measure
taken g c =
    let me = c.args.self.now in
    let best = c.blank-best.result in
    made g.M.Measure.laws (contents me) (charges_by g.T.Tariff.charge g.T.Tariff.bounded c.args.tariff.now) g.M.Measure.MARK (length c.args.bytes.now) (length c.args.measures.now) best.mark
    (take (me.slots - me.clock) (drop me.clock c.best_speeds.new.speeds)) c.in_ok-measure.measure me.sound c.in_ok-measure.ensures.answer
    (ap (λ (p : PlanRecord). p.mark) c.blank-best.ensures ∙ c.MARK.ensures) c.in_ok-measure.ensures.speeds

pub take_plan-requires : goal.take_plan-requires
take_plan-requires g c = (taken g (goal.at.take_plan-requires g c).In_ok-measure).sound_then

pub returns-clause-follows : goal.returns-clause-follows
returns-clause-follows g c = rw ((rw (c.ahead.ensures.slots, c.ahead.ensures.clock) at c.left.ensures) ∙ ap slots_left c.take_plan.ensures, c.take_plan.ensures) (taken g (goal.at.returns-clause-follows g c).In_ok-measure).follows

pub returns-clause-own : goal.returns-clause-own
returns-clause-own g c = rw c.take_plan.ensures (taken g (goal.at.returns-clause-own g c).In_ok-measure).own
