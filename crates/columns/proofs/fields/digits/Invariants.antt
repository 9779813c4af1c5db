use Rattle.std.proofs.Common.{◌≡◌, ◌^◌, ◌<◌, drop}
use Rattle.columns.specs.Fields.{digits_behind}
use Rattle.columns.proofs.fields.digits.Given as goal

abbrev pub invariant-loop-byte : goal.invariant-loop-byte
invariant-loop-byte l = (digits_behind l.n (drop l.byte-index l.bytes) ≡ digits_behind 0 l.bytes) × (l.n < 10 ^ l.byte-index)
