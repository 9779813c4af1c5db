use Rattle.std.proofs.Common.{arith}
use Rattle.std.proofs.lemmas.Grind.{common_steps}
use Rattle.recursion.proofs.Tables.{most_at}
use Rattle.recursion.proofs.slots.SlotsLeft.follow.Goals as goal

pub loop-i-preserved : goal.loop-i-preserved
loop-i-preserved c = (grind (arith, common_steps), omega (arith, most_at c.args.self.work.now c.loop-i.i, c.min-done.ensures))
