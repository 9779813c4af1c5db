use Rattle.std.proofs.Common.{◌≡◌, ◌++◌, drop, decimal}
use Rattle.columns.proofs.NumberFacts.{last_digits}
use Rattle.columns.proofs.numbers.put_digits.Given as goal

-- the digits that are left go before those that are written
abbrev pub invariant-loop-k : goal.invariant-loop-k
invariant-loop-k l = last_digits l.k l.rest ++ drop l.k l.bytes ≡ decimal l.value
