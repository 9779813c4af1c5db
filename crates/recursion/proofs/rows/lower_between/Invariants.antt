use Rattle.std.proofs.Common.{ℕ, ◌≡◌, ◌<◌, ◌≤◌}
use Rattle.recursion.specs.Staged.{best}
use Rattle.recursion.specs.Rows.{Lowered}
use Rattle.recursion.proofs.rows.lower_between.Given as goal

abbrev pub invariant-loop-done : goal.invariant-loop-done
invariant-loop-done g l =
    (f : ℕ → g.row.M.Denot) → ((e : ℕ) (m : g.row.M.Denot) → l.from ≤ e → e < l.to → goal.F-post g l.outcome e m → m ≡ f e) →
    Lowered g.M.Measure.kind (λ e. best l.speed (f e)) l.from l.done l.initial.picks l.initial.row l.picks l.row
