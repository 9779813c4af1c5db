use Rattle.std.proofs.Common.{◌≡◌, true, get_or, None, is_some, ap, ◌∙◌}
use Rattle.ledger.specs.declared.refusal.Refusal.TheVariants.{NoSuchJob}
use Rattle.ledger.specs.Answers.{withdrew}
use Rattle.ledger.specs.Ledger.{withdrawing, refusal, with_queue, accepted}
use Rattle.stay.specs.Contents.{contents}
use Rattle.stay.specs.Jobs.{blank, queue_of}
use Rattle.stay.proofs.Ruling.{rule_told, withdrawing_rule}
use Rattle.stay.proofs.Steps.{err_follows, accepted_sound, accepted_follows}
use Rattle.stay.proofs.Striking.{left_at}
use Rattle.stay.proofs.stay.Stay.withdraw.Goals as goal
use Rattle.stay.proofs.stay.Stay.withdraw.Goals.{After-struck-table}

pub returns-in_err-place-clause-follows : goal.returns-in_err-place-clause-follows
returns-in_err-place-clause-follows c =
    let l = contents c.args.self.now in
    let n = c.args.number in
    let o = c.find.result in
    let r = c.in_err-place.field-0.0 in
    err_follows _ l (withdrawing n) r _ c.from_residual.ensures.1 c.args.self.now.sound (withdrawing_rule l n (is_some o) c.find.ensures.found ∙ rule_told o NoSuchJob r c.in_err-place.ensures.value)

-- the call on the ledger
taken : (c : After-struck-table) →
    let l = contents c.args.self.now in
    let call = withdrawing c.args.number in
    (refusal l call ≡ None) × (with_queue (queue_of c.struck-table.result) l ≡ accepted l call)
taken c =
    let l = contents c.args.self.now in
    let n = c.args.number in
    let found = rw c.in_ok-place.ensures.ok_part at c.find.ensures.found in
    let place = rw c.in_ok-place.ensures.ok_part at c.find.ensures.place in
    (withdrawing_rule l n true found, ap (λ q. with_queue q l) (c.struck-table.ensures.strikes n place))

pub take_jobs-requires : goal.take_jobs-requires
take_jobs-requires c =
    let me = c.args.self.now in
    let l = contents me in
    let t = taken (goal.at.take_jobs-requires c).After-struck-table in
    accepted_sound l (with_queue (queue_of c.struck-table.result) l) (withdrawing c.args.number) me.sound t.0 t.1

pub returns-clause-follows : goal.returns-clause-follows
returns-clause-follows c =
    let me = c.args.self.now in
    let l = contents me in
    let n = c.args.number in
    let i = c.in_ok-place.place in
    let t = taken (goal.at.returns-clause-follows c).After-struck-table in
    let place = rw c.in_ok-place.ensures.ok_part at c.find.ensures.place in
    accepted_follows l (contents c.take_jobs.new.self) (withdrawing n) (withdrew (get_or me.table.jobs i blank).left) me.sound t.0
    (c.take_jobs.ensures ∙ t.1) (ap withdrew (left_at n me.table.count i me.table.jobs place))
