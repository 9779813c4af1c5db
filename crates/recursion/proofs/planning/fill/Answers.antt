use Rattle.std.proofs.Common.{◌≡◌, ℕ, ◌+◌, ◌-◌, ◌*◌, ◌≤◌, List, ◌++◌, get_or, take, drop, length, sym, ap, ◌∙◌, subst, arith}
use Rattle.std.proofs.lemmas.List.{length-take, length-drop, take_all}
use Rattle.recursion.specs.Windows.{reach_at}
use Rattle.recursion.specs.Rows.{Picked}
use Rattle.recursion.specs.Speeds.{top_of}
use Rattle.recursion.specs.Work.{arrived_at, pump_of}
use Rattle.recursion.specs.declared.work.SlotWork.{SlotWork}
use Rattle.recursion.proofs.Feeding.{feeds_pump}
use Rattle.recursion.proofs.Rising.{lawful_gives}
use Rattle.recursion.proofs.Tables.{Filled, Turn, reach_most, row_size, turn, filled_first, filled_last, filled_next}
use Rattle.recursion.proofs.planning.fill.Goals as goal
use Rattle.recursion.proofs.planning.fill.Goals.{After-saturating_sub-low}

pub last_row-requires : goal.last_row-requires
last_row-requires g c =
    let work = c.args.slots.work.now in
    omega (arith, c.requires.reached (length work) (omega arith), reach_most (top_of c.args.speeds.listed.now) work 0 (length work))

pub loop-i-init : goal.loop-i-init
loop-i-init g c =
    let ss = c.args.speeds.listed.now in
    let work = c.args.slots.work.now in
    let first = c.args.slots.first in
    let charge = g.T.Tariff.charge c.args.tariff.now in
    let y = pump_of ss first work charge in
    let whole : c.into_iter-i-iterator.result.iter.iter.rest.now ≡ work = cc in
    let filled = filled_last g.M.Measure.kind y (top_of ss) (lawful_gives ss c.args.speeds.lawful).under_top first work (feeds_pump ss first work charge) c.args.slots.width
    c.last_row.new.row c.args.bytes.now (λ e h. c.last_row.ensures e (subst (λ (v : ℕ). e ≤ v) (sym (c.requires.reached (length work) (omega arith))) h)) in (
      cc,
      whole ∙ sym (ap (λ (v : List SlotWork). take (length v) work) whole ∙ take_all (length work) work (omega arith)),
      subst (λ (v : List SlotWork). Filled g.M.Measure.kind y (top_of ss) first work c.args.slots.width c.last_row.new.row c.args.bytes.now 0 (length v)) (sym whole) filled,
      omega arith,
      omega arith,
    )

-- where a turn stands, once what its slot needs and its low are known
turn_at : (g : _) (c : After-saturating_sub-low g)
    → Turn (top_of c.args.speeds.listed.now) c.args.slots.work.now c.next.new.self.iter.iter.rest.now c.in-Some.slot.now c.in-Some.i (length c.loop-i.i-iterator.iter.iter.rest.now) (get_or c.args.reach.now c.in-Some.i 0) c.max-need.result c.loop-i.low c.saturating_sub-low.result c.args.slots.width
turn_at g c =
    let inv = c.loop-i.invariant in
    turn c.args.reach.now inv.1 c.in-Some.ensures.steps.1.0 (omega (arith, c.in-Some.ensures.steps.1.1, inv.0)) c.requires.reached c.requires.possible inv.2.low_is (omega (arith, c.max-need.ensures)) (omega (arith, c.saturating_sub-low.ensures, c.top-top.ensures)) c.args.slots.wide

pub invariant_of-window : goal.invariant_of-window
invariant_of-window g c =
    let t = turn_at g (goal.at.invariant_of-window g c).After-saturating_sub-low in
    record { high_small = omega (arith, t.high_in); arrived_small = omega (arith, t.arrived_in); need_arrived = omega (arith, t.enough) }

pub fill_row-requires-clause-inside : goal.fill_row-requires-clause-inside
fill_row-requires-clause-inside g c =
    let inv = c.loop-i.invariant in
    let t = turn_at g (goal.at.fill_row-requires-clause-inside g c).After-saturating_sub-low in
    (omega (arith, t.arrived_in, inv.3), omega (arith, t.high_in, inv.4), simp (length-take, length-drop) (omega (arith, t.high_in, t.wide, t.last, c.loop-i.auto.bytes, c.requires.memory.0)))

pub loop-i-preserved : goal.loop-i-preserved
loop-i-preserved g c =
    let inv = c.loop-i.invariant in
    let t = turn_at g (goal.at.loop-i-preserved g c).After-saturating_sub-low in
    let q = g.M.Measure.kind in
    let charge = g.T.Tariff.charge c.args.tariff.now in
    let ss = c.args.speeds.listed.now in
    let work = c.args.slots.work.now in
    let first = c.args.slots.first in
    let width = c.args.slots.width in
    let i = c.in-Some.i in
    let low = c.saturating_sub-low.result in
    let row = c.fill_row.new.row in
    let picks = c.fill_row.new.picks in
    let y = pump_of ss first work charge in
    let P : ℕ → ℕ → Type 0 = λ a h. Picked q (charge (first + i)) a c.max-need.result c.loop-i.next.now ss low h row picks in
    let picked : P (arrived_at work i) (reach_at (top_of ss) work 0 i) = subst (λ (a : ℕ). P a (reach_at (top_of ss) work 0 i)) t.arrived (subst (P c.in-Some.slot.now.arrived) t.high_is c.fill_row.ensures) in
    let filled = filled_next q y (top_of ss) (lawful_gives ss c.args.speeds.lawful).under_top first work (feeds_pump ss first work charge) width i _ c.loop-i.next.now row c.loop-i.bytes picks c.loop-i.low c.max-need.result low t.on t.within inv.2 t.needed t.lowered (omega (arith, c.args.slots.wide))
    (c.fill_row.auto.picks ∙ row_size c.loop-i.bytes (i * width) ((i + 1) * width) width t.wide (omega (arith, t.last, c.loop-i.auto.bytes, c.requires.memory.0))) (omega (arith, c.loop-i.auto.bytes, c.requires.memory.0)) picked in (
      omega (arith, c.in-Some.ensures.steps.0, inv.0),
      t.first_ones,
      subst (λ (v : ℕ). Filled q y (top_of ss) first work width row (take (i * width) c.loop-i.bytes ++ (picks ++ drop ((i + 1) * width - i * width) (drop (i * width) c.loop-i.bytes))) low v) (sym t.size) filled,
      omega (arith, c.fill_row.auto.row, inv.4),
      inv.3,
    )

pub returns-clause-answer : goal.returns-clause-answer
returns-clause-answer g c =
    let ss = c.args.speeds.listed.now in
    let work = c.args.slots.work.now in
    let first = c.args.slots.first in
    let inv = c.loop-i.invariant in
    let end : length c.loop-i.i-iterator.iter.iter.rest.now ≡ 0 = omega (arith, c.in-None.ensures.steps.1.0) in
    filled_first g.M.Measure.kind (pump_of ss first work (g.T.Tariff.charge c.args.tariff.now)) (top_of ss) first work c.args.slots.width c.loop-i.next.now c.loop-i.bytes c.loop-i.low (length c.loop-i.i-iterator.iter.iter.rest.now) c.index-next-0.result (omega arith) c.requires.possible (omega arith) c.index-next-0.is inv.2
