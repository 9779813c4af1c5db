use Rattle.std.proofs.Common.{◌+◌, get_or, rules}
use Rattle.recursion.proofs.Choosing.{lowered_row}
use Rattle.recursion.proofs.rows.lower_row.Goals as goal

pub returns : goal.returns
returns g c =
    let q = g.M.Measure.kind in
    let s = c.args.speed in
    lowered_row q c.args.measure c.with_rest-all.result c.args.window.low c.args.window.high c.args.window.arrived c.args.window.need s c.min-from.result c.min-mid.result
    c.args.next.now c.args.row.now c.lower_between.new.row c.lower_between-2.new.row c.args.picks.now c.lower_between.new.picks c.lower_between-2.new.picks
    c.args.window.need_arrived (search rules) (search rules) c.with_rest-all.ensures
    (c.lower_between.ensures (λ e. q.join c.args.measure (get_or c.args.next.now (e + s) q.nought)) (λ e m f t p. search rules))
    (c.lower_between-2.ensures (λ e. c.with_rest-all.result) (λ e m f t p. search rules))
