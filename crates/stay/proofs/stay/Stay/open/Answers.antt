use Rattle.std.proofs.Common.{◌≡◌, true, false, take, None, is_some, refl, ap, ◌∙◌}
use Rattle.recursion.specs.Speeds.{lawful_speeds}
use Rattle.ledger.specs.declared.refusal.Refusal.TheVariants.{SlotCount, SpeedList}
use Rattle.ledger.specs.Answers.{opened}
use Rattle.ledger.specs.Ledger.{opening, refusal}
use Rattle.stay.specs.Contents.{contents}
use Rattle.stay.specs.Image.{anew}
use Rattle.stay.proofs.Ruling.{rule_told, opening_rules}
use Rattle.stay.proofs.Steps.{refused_follows, err_follows, accepted_sound, accepted_follows}
use Rattle.stay.proofs.stay.Stay.open.Goals as goal
use Rattle.stay.proofs.stay.Stay.open.Goals.{In_ok-listed}

pub returns-then-is_no_slot_count-clause-follows : goal.returns-then-is_no_slot_count-clause-follows
returns-then-is_no_slot_count-clause-follows c =
    let l = contents c.args.self.now in
    let n = c.args.slots in
    let ss = c.args.speeds.now in
    refused_follows l (opening n ss) SlotCount c.args.self.now.sound (opening_rules l n ss true (lawful_speeds ss) c.if-is_no_slot_count.ensures refl)

pub returns-in_err-listed-clause-follows : goal.returns-in_err-listed-clause-follows
returns-in_err-listed-clause-follows c =
    let l = contents c.args.self.now in
    let n = c.args.slots in
    let ss = c.args.speeds.now in
    let o = c.from_slice.result in
    let r = c.in_err-listed.field-0.0 in
    err_follows _ l (opening n ss) r _ c.from_residual.ensures.1 c.args.self.now.sound (opening_rules l n ss false (is_some o) c.if-is_no_slot_count.ensures c.from_slice.ensures.made ∙ rule_told o SpeedList r c.in_err-listed.ensures.value)

-- the call on the ledger
taken : (c : In_ok-listed) →
    let l = contents c.args.self.now in
    let s = c.in_ok-listed.listed in
    (refusal l (opening c.args.slots c.args.speeds.now) ≡ None) × (take s.count s.speeds ≡ c.args.speeds.now)
taken c =
    let made = rw c.in_ok-listed.ensures.ok_part at c.from_slice.ensures.made in
    let same = rw c.in_ok-listed.ensures.ok_part at c.from_slice.ensures.same in
    (opening_rules (contents c.args.self.now) c.args.slots c.args.speeds.now false true c.if-is_no_slot_count.ensures made, same)

pub opened-requires : goal.opened-requires
opened-requires c =
    let me = c.args.self.now in
    let n = c.args.slots in
    let s = c.in_ok-listed.listed in
    let t = taken (goal.at.opened-requires c).In_ok-listed in
    accepted_sound (contents me) (anew n (take s.count s.speeds)) (opening n c.args.speeds.now) me.sound t.0 (ap (anew n) t.1)

pub returns-clause-follows : goal.returns-clause-follows
returns-clause-follows c =
    let me = c.args.self.now in
    let n = c.args.slots in
    let t = taken (goal.at.returns-clause-follows c).In_ok-listed in
    accepted_follows (contents me) (contents c.opened.result) (opening n c.args.speeds.now) opened me.sound t.0 (c.opened.ensures.holds ∙ ap (anew n) t.1) refl
