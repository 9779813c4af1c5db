use Rattle.std.proofs.Common.{arith}
use Rattle.columns.proofs.NumberFacts.{length_from_log}
use Rattle.columns.proofs.numbers.digit_count.Goals as goal

pub returns : goal.returns
returns c =
    let log = c.checked_ilog10.ensures in
    omega (arith, c.unwrap_or.ensures, length_from_log c.args.value c.checked_ilog10.result (omega arith) log.none log.power_le log.next_power_gt)
