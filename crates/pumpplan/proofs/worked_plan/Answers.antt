use Rattle.std.proofs.Common.{Ok, ap, ◌∙◌}
use Rattle.measure.specs.Energies.{stopped}
use Rattle.pumpplan.proofs.Plans.{answered, not_refused, put_together}
use Rattle.pumpplan.proofs.worked_plan.Goals as goal

pub returns-in_err-least : goal.returns-in_err-least
returns-in_err-least c =
    absurd (not_refused c.plan.result (stopped 24) _ (c.plan.ensures.answer ∙ answered c.args.table.now.energies.values c.requires) c.in_err-least.was)

pub returns : goal.returns
returns c =
    ap Ok (put_together c.args.table.now.energies.values c.plan.new.chosen _ c.plan.result _ c.value.result c.requires c.plan.ensures.answer c.in_ok-least.was c.plan.ensures.chosen c.value.ensures)
