use Rattle.std.proofs.Common.{◌≡◌, ℕ, ◌-◌, List, length, take, ap, ◌∙◌, arith, rules}
use borrow.Rule.Slice.PartMut.{mid_of}
use Rattle.recursion.specs.Planning.{places_after}
use Rattle.measure.specs.Orders.{order_of}
use Rattle.ledger.specs.Ledger.{plan_for}
use Rattle.stay.specs.Contents.{contents}
use Rattle.stay.specs.Tariffs.{charges_by}
use Rattle.stay.proofs.Ahead.{or_short, told_short, lent_kept, placed, planned_ahead, stay_answer}
use Rattle.stay.proofs.Steps.{sound_holds}
use Rattle.stay.proofs.stay.Stay.best_speeds.Goals as goal

pub returns : goal.returns
returns g c =
    let me = c.args.self.now in
    let l = contents me in
    let w = sound_holds l me.sound in
    let c_in = w.clock_within in
    let s_in = w.slots_within in
    let t = charges_by g.T.Tariff.charge g.T.Tariff.bounded c.args.tariff.now in
    let laws = g.M.Measure.laws in
    let r = c.plan.result in
    let told = rw (c.ahead-ahead.ensures.slots, c.ahead-ahead.ensures.clock) at c.work_ahead-work.ensures in
    let ws = ap (λ (v : ℕ). take v c.work_ahead-work.result) (rw (c.ahead-ahead.ensures.slots, c.ahead-ahead.ensures.clock) at c.left-left.ensures) ∙ told in
    let n : length c.args.speeds.now ≡ 96 = search rules in
    let short = told_short r c.map_err.result c.map_err.ensures.cases (λ u e h. search rules) in
    record {
      answer = rw short (ap or_short c.plan.ensures.answer ∙ stay_answer laws l t w (length c.args.bytes.now) (length c.args.measures.now) g.M.Measure.MARK _ _ _ c.listed.ensures ws (search rules));
      speeds = rw short
          (placed r me.clock me.slots c.args.speeds.now c.plan.new.chosen (plan_for l t (order_of laws)) (omega arith) (search rules)
          (c.plan.ensures.chosen ∙ ap (λ (v : List ℕ). places_after r v (mid_of me.clock (me.slots - me.clock) c.args.speeds.now)) (planned_ahead laws l t w _ _ c.listed.ensures ws)));
      bytes = rw short (lent_kept r c.args.bytes.now c.plan.new.bytes (search rules) c.plan.ensures.bytes);
      measures = rw short (lent_kept r c.args.measures.now c.plan.new.measures (search rules) c.plan.ensures.measures);
    }
