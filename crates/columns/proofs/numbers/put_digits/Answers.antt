use Rattle.std.proofs.Common.{arith}
use Rattle.columns.proofs.NumberFacts.{digits_start}
use Rattle.columns.proofs.numbers.put_digits.Goals as goal

pub loop-k-init : goal.loop-k-init
loop-k-init c = digits_start c.args.value c.args.bytes.now (omega arith) c.requires
