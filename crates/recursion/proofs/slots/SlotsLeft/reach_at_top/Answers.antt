use Rattle.std.proofs.Common.{◌≡◌, ◌+◌, ap, ◌∙◌, ⊎_elim, add-one, arith}
use Rattle.std.proofs.lemmas.Bool.{cases_lt}
use Rattle.std.proofs.lemmas.Grind.{common_steps}
use Rattle.recursion.specs.Windows.{reach_at}
use Rattle.recursion.proofs.Matters.{reach_next}
use Rattle.recursion.proofs.slots.SlotsLeft.reach_at_top.Goals as goal

pub loop-i-preserved : goal.loop-i-preserved
loop-i-preserved c =
    let top = c.args.top in
    let work = c.args.self.work.now in
    let i = c.loop-i.i in
    let far : reach_at top work 0 (i + 1) ≡ c.min-done.result =
    ap (reach_at top work 0) (add-one i) ∙ omega (arith, reach_next top work 0 i c.loop-i-test.true, c.loop-i.invariant.reached i (omega arith), c.min-done.ensures) in
    record {
      whole = grind (arith, common_steps);
      reached = λ j le. ⊎_elim
          (λ lt. grind (arith, common_steps, c.loop-i.invariant.reached j (omega arith)))
          (λ ge. let same : j ≡ i + 1 = omega arith in grind (arith, common_steps, ap (reach_at top work 0) same))
          (cases_lt j (i + 1));
      on = grind (arith, common_steps);
      small = grind (arith, common_steps);
    }
