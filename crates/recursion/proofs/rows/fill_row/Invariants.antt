use Rattle.std.proofs.Common.{◌-◌, length, drop}
use Rattle.recursion.specs.Rows.{Picked}
use Rattle.recursion.proofs.rows.fill_row.Given as goal

-- the row is picked from the top speed and those below it that were tried
abbrev pub invariant-loop-speed : goal.invariant-loop-speed
invariant-loop-speed g l =
    let ss = l.speeds.listed.now in
    Picked g.M.Measure.kind (g.T.Tariff.charge l.tariff l.slot) l.window.arrived l.window.need l.next (drop (length ss - 1 - length l.yielded) ss) l.window.low l.window.high l.row l.picks
