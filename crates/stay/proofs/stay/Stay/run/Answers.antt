use Rattle.std.proofs.Common.{◌+◌, get_or, rules}
use Rattle.ledger.specs.declared.refusal.Refusal.TheVariants.{StayOver}
use Rattle.ledger.specs.Answers.{ran}
use Rattle.ledger.specs.Ledger.{running}
use Rattle.stay.specs.Contents.{contents}
use Rattle.stay.specs.Image.{image}
use Rattle.stay.proofs.Slotwise.{stay_over, not_planned, Runs, slot_runs}
use Rattle.stay.proofs.Steps.{refused_follows, err_follows, accepted_sound, accepted_follows}
use Rattle.stay.proofs.stay.Stay.run.Goals as goal
use Rattle.stay.proofs.stay.Stay.run.Goals.{After-pump-outcome}

pub returns-then-self-clause-follows : goal.returns-then-self-clause-follows
returns-then-self-clause-follows c =
    let l = contents c.args.self.now in refused_follows l running StayOver c.args.self.now.sound (stay_over l c.if-self.true)

pub returns-in_err-plan-clause-follows : goal.returns-in_err-plan-clause-follows
returns-in_err-plan-clause-follows c =
    let me = c.args.self.now in
    let r = c.in_err-plan.field-0.0 in
    err_follows _ (contents me) running r _ c.from_residual.ensures.1 me.sound (not_planned me.slots me.clock me.speeds me.table me.plan r c.if-self.false c.in_err-plan.ensures.value)

runs : (c : After-pump-outcome) →
    let me = c.args.self.now in
    let plan = c.in_ok-plan.plan in
    Runs (contents me) (image me.slots me.speeds (me.clock + 1) c.pump-outcome.result.table me.plan) (get_or plan.speeds me.clock 0)
runs c =
    let me = c.args.self.now in
    rw c.in_ok-plan.ensures.ok_part
    (slot_runs me.slots me.clock me.speeds me.table c.pump-outcome.result.table c.in_ok-plan.plan c.if-self.false (search rules) c.pump-outcome.ensures.queue)

pub invariant_of-self-2 : goal.invariant_of-self-2
invariant_of-self-2 c =
    let me = c.args.self.now in
    let r = runs (goal.at.invariant_of-self-2 c).After-pump-outcome in
    record { sound = accepted_sound (contents me) (image me.slots me.speeds (me.clock + 1) c.pump-outcome.result.table me.plan) running me.sound r.allowed r.step }

pub returns-clause-follows : goal.returns-clause-follows
returns-clause-follows c =
    let me = c.args.self.now in
    let r = runs (goal.at.returns-clause-follows c).After-pump-outcome in
    let out = c.pump-outcome.result in
    let plan = c.in_ok-plan.plan in
    accepted_follows (contents me) (image me.slots me.speeds (me.clock + 1) out.table me.plan) running (ran (get_or plan.speeds me.clock 0) out.units out.finished) me.sound r.allowed r.step (cc)
