use Rattle.std.proofs.Common.{◌≡◌, ℕ, ◌<◌, ◌≤◌, get_or}
use Rattle.recursion.specs.Staged.{best}
use Rattle.recursion.specs.Rows.{offer}
use Rattle.recursion.proofs.rows.start_row.Given as goal

abbrev pub invariant-loop-done : goal.invariant-loop-done
invariant-loop-done g l =
    let q = g.M.Measure.kind in
    (e : ℕ) → l.window.low ≤ e → e < l.done →
    best (get_or l.picks e 0) (get_or l.row e q.nought) ≡ offer q l.measure l.window.arrived l.window.need l.next l.speed e
