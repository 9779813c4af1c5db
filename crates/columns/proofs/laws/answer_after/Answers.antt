use Rattle.std.proofs.Common.{arith}
use Rattle.std.proofs.lemmas.Grind.{common_steps}
use Rattle.std.proofs.lemmas.List.{length-drop}
use Rattle.columns.specs.Lines.{lines}
use Rattle.columns.proofs.laws.answer_after.Goals as goal

pub loop-preserved : goal.loop-preserved
loop-preserved c =
    let long = length-drop c.loop.counter (lines c.args.file.now) in
    record { file = grind (arith, common_steps); left = grind (arith, common_steps); given = grind (arith, common_steps) }

pub returns : goal.returns
returns c = grind (arith, common_steps, length-drop c.loop.counter (lines c.args.file.now))
