use Rattle.std.proofs.Common.{◌≡◌, ◌-◌, leb, length, get_or, sym, arith, rules}
use Rattle.recursion.specs.Speeds.{lawful_speeds}
use Rattle.recursion.proofs.Rising.{lawful_by_last}
use Rattle.recursion.proofs.speeds.lawful.Goals as goal

pub returns-in-0 : goal.returns-in-0
returns-in-0 c =
    let ss = c.args.speeds.now in
    let by_last : leb (get_or ss (length ss - 1) 0) 15 ≡ lawful_speeds ss = lawful_by_last ss (omega arith) (omega arith) (omega arith) (sym c.if-rises.ensures) in
    search rules
