use Rattle.std.proofs.Common.{◌≡◌, ℕ, ◌+◌, ◌-◌, [], ◌∷◌, ◌++◌, length, get_or, take, sym, ap, ◌∙◌, arith}
use Rattle.std.proofs.lemmas.List.{length_push}
use Rattle.std.proofs.lemmas.Iterator.Adapters.{YieldsList-from_rev_slice}
use Rattle.std.proofs.lemmas.Iterator.Consumers.{YieldsList-turn}
use Rattle.recursion.proofs.Ranked.{ranked}
use Rattle.recursion.proofs.Rising.{lawful_gives, each_low, from_top}
use Rattle.recursion.proofs.Choosing.{picked_before}
use Rattle.recursion.proofs.rows.fill_row.Goals as goal

pub measure_at-requires : goal.measure_at-requires
measure_at-requires g c =
    let l = lawful_gives c.args.speeds.listed.now c.args.speeds.lawful in
    (c.requires.slots, omega (arith, l.low_top, c.top-top.ensures))

pub measure_at-requires-in-loop-speed : goal.measure_at-requires-in-loop-speed
measure_at-requires-in-loop-speed g c =
    let ss = c.args.speeds.listed.now in
    let t = from_top ss _ _ (YieldsList-turn (YieldsList-from_rev_slice (take (length ss - 1) ss) cc) c.loop-speed.yielded _ c.loop-speed.yielded_by _ _ c.in-Some.speed c.in-Some.is c.next.ensures.steps) in
    (c.requires.slots, omega (arith, t.1, each_low ss _ (lawful_gives ss c.args.speeds.lawful) (length ss - 1 - (length c.loop-speed.yielded + 1))))

pub loop-speed-preserved : goal.loop-speed-preserved
loop-speed-preserved g c =
    let ss = c.args.speeds.listed.now in
    let k = length c.loop-speed.yielded in
    let t = from_top ss k c.in-Some.speed.now (YieldsList-turn (YieldsList-from_rev_slice (take (length ss - 1) ss) cc) c.loop-speed.yielded _ c.loop-speed.yielded_by _ _ c.in-Some.speed c.in-Some.is c.next.ensures.steps) in
    let more : length ss - 1 - length (c.loop-speed.yielded ++ (c.in-Some.speed ∷ [])) ≡ length ss - 1 - (k + 1) = ap (λ (v : ℕ). length ss - 1 - v) (length_push c.loop-speed.yielded c.in-Some.speed) in
    picked_before (ranked g.M.Measure.laws) (g.T.Tariff.charge c.args.tariff.now c.args.slot) c.args.window.arrived c.args.window.need c.args.next.now ss
    c.in-Some.speed.now _ (length ss - 1 - k) c.measure_at-in-loop-speed.result c.args.window.low c.args.window.high c.loop-speed.picks c.lower_row.new.picks c.loop-speed.row c.lower_row.new.row
    (omega (arith, t.0, more)) (omega arith) (t.1 ∙ ap (λ (v : ℕ). get_or ss v 0) (sym more)) c.measure_at-in-loop-speed.ensures c.loop-speed.invariant c.lower_row.ensures
