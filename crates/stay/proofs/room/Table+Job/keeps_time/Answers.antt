use Rattle.std.proofs.Common.{◌∙◌, rules}
use Rattle.ledger.specs.Ledger.{pump_for, no_charge}
use Rattle.stay.specs.Jobs.{queue_of}
use Rattle.stay.proofs.Rooms.{told_in_time}
use Rattle.stay.proofs.room.Table+Job.keeps_time.Goals as goal

pub returns : goal.returns
returns c =
    λ listed. c.is_some.ensures ∙ told_in_time _ _ (pump_for listed (queue_of c.args.self.now) no_charge) c.args.speed _ (λ k e v h w. search rules) _ _ 0 c.try_fold.result c.try_fold.ensures.ran
