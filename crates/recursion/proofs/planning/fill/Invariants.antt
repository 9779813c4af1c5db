use Rattle.std.proofs.Common.{◌≡◌, ◌≤◌, length, take}
use Rattle.recursion.specs.Speeds.{top_of}
use Rattle.recursion.specs.Work.{pump_of}
use Rattle.recursion.proofs.Tables.{Filled}
use Rattle.recursion.proofs.planning.fill.Given as goal

-- the slots behind those still to come are done, and either row has its width
abbrev pub invariant-loop-i : goal.invariant-loop-i
invariant-loop-i g l =
    let rest = l.i-iterator.iter.iter.rest.now in
    (l.i-iterator.iter.count ≡ 0) × (rest ≡ take (length rest) l.slots.work.now)
    × Filled g.M.Measure.kind (pump_of l.speeds.listed.now l.slots.first l.slots.work.now (g.T.Tariff.charge l.tariff)) (top_of l.speeds.listed.now) l.slots.first l.slots.work.now l.width l.next l.bytes l.low (length rest)
    × (l.width ≤ length l.next) × (l.width ≤ length l.row)
