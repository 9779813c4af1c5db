use Rattle.std.proofs.Common.{◌≡◌, ℕ, ◌≤◌, get_or, length, drop}
use Rattle.recursion.specs.Windows.{keeps_up, reach_at}
use Rattle.recursion.proofs.slots.SlotsLeft.reach_at_top.Given as goal

-- the places up to i stand, and top speed keeps up from here as from the start
abbrev pub invariant-loop-i : goal.invariant-loop-i
invariant-loop-i l = record {
  whole : length l.reach ≡ 97;
  reached : (j : ℕ) → j ≤ l.i → get_or l.reach j 0 ≡ reach_at l.top l.self.work.now 0 j;
  on : keeps_up l.top (drop l.i l.self.work.now) (get_or l.reach l.i 0) ≡ keeps_up l.top l.self.work.now 0;
  small : get_or l.reach l.i 0 ≤ 65535;
}
