use Rattle.std.proofs.Common.{Option, sym, ◌∙◌, subst, rules}
use Rattle.std.proofs.lemmas.Option.{IfSome_then}
use Rattle.ledger.specs.Sound.{PlanFits}
use Rattle.stay.specs.declared.plan_record.PlanRecord.{PlanRecord}
use Rattle.stay.specs.Contents.{contents}
use Rattle.stay.specs.Image.{standing_of}
use Rattle.stay.proofs.Asking.{speed_told}
use Rattle.stay.proofs.Steps.{sound_holds}
use Rattle.stay.proofs.stay.Stay.speed_at.Goals as goal

pub returns : goal.returns
returns c =
    let me = c.args.self.now in
    let told = c.in_ok-plan.ensures.value in
    let fits = subst (λ (p : Option PlanRecord). PlanFits (contents me) (standing_of me.slots me.clock p)) (sym told) (sound_holds (contents me) me.sound).standing_fits in
    rw (← told) (speed_told me.slots me.clock c.args.slot c.in_ok-plan.plan.now.speeds c.then.result fits.each_slot (c.then.ensures.variant ∙ (rw (c.ahead.ensures.slots, c.ahead.ensures.clock) at c.contains.ensures))
    (IfSome_then c.then.result c.then.ensures.some (λ s e. search rules)))
