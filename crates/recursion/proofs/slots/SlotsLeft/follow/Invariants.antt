use Rattle.std.proofs.Common.{◌≡◌, ◌≤◌, ◌++◌, take, drop}
use Rattle.recursion.specs.Rows.{followed}
use Rattle.recursion.specs.Work.{most_arrived}
use Rattle.recursion.proofs.slots.SlotsLeft.follow.Given as goal

-- the speeds read so far, and those that would be read from here
abbrev pub invariant-loop-i : goal.invariant-loop-i
invariant-loop-i l =
    (take l.i l.chosen ++ followed l.self.width l.table (drop l.i l.self.work.now) l.i l.done ≡ followed l.self.width l.table l.self.work.now 0 0)
    × (l.done ≤ most_arrived l.self.work.now)
