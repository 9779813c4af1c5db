use Rattle.std.proofs.Common.{◌≡◌, ℕ, ◌+◌, List, set, sym, ap, subst, arith}
use Rattle.recursion.specs.Staged.{best}
use Rattle.recursion.specs.Rows.{Lowered}
use Rattle.recursion.proofs.Choosing.{lowered_turn}
use Rattle.recursion.proofs.rows.lower_between.Goals as goal
use Rattle.recursion.proofs.rows.lower_between.Goals.{then-takes_place, else-takes_place}

pub loop-done-preserved : goal.loop-done-preserved
loop-done-preserved g c f is =
    let q = g.M.Measure.kind in
    let i = c.loop-done.done in
    let s = c.args.speed in
    let m = c.outcome-here.result in
    let L : List ℕ → List g.row.M.Denot → Type 0 = λ p r. Lowered q (λ e. best s (f e)) c.args.from (i + 1) c.args.picks.now c.args.row.now p r in
    let turn = lowered_turn q (λ e. best s (f e)) c.args.from i s m c.index-row-done.result c.takes_place.result c.args.picks.now c.args.row.now c.loop-done.picks c.loop-done.row (omega arith) (omega arith) (omega arith) (ap (best s) (sym (is i m (omega arith) c.loop-done-test.true c.outcome-here.ensures))) c.index-row-done.is c.takes_place.ensures (c.loop-done.invariant f is) in
    elim c.if-takes_place.branch [
      | then-takes_place w ↦
          subst (λ (r : List g.row.M.Denot). L c.if-takes_place.picks r) (sym w.row-is) (subst (λ (p : List ℕ). L p (set c.loop-done.row i m)) (sym w.picks-is) (turn.0 w.if-takes_place.true))
      | else-takes_place w ↦
          subst (λ (r : List g.row.M.Denot). L c.if-takes_place.picks r) (sym w.row-is) (subst (λ (p : List ℕ). L p c.loop-done.row) (sym w.picks-is) (turn.1 w.if-takes_place.false))
    ]

pub returns : goal.returns
returns g c f is =
    let end : c.loop-done.done ≡ c.args.to = omega (arith, c.loop-done.auto.done-end, c.requires.inside) in
    subst (λ (v : ℕ). Lowered g.M.Measure.kind (λ e. best c.args.speed (f e)) c.args.from v c.args.picks.now c.args.row.now c.loop-done.picks c.loop-done.row) end (c.loop-done.invariant f is)
