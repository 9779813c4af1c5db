use Rattle.std.proofs.Common.{◌≡◌, length, map, take}
use Rattle.stay.specs.Capped.{capped}
use Rattle.stay.proofs.speeds.as_bytes.Given as goal

abbrev pub invariant-loop-i : goal.invariant-loop-i
invariant-loop-i l = record {
  long : length l.speeds ≡ 16;
  same : take l.i l.speeds ≡ map capped (take l.i l.list);
}
