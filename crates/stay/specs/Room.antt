-- Words: room.
use Rattle.std.specs.Prelude.{ℕ, ◌-◌, List}
use Rattle.recursion.specs.Pumps.{InTimeSequence}
use Rattle.ledger.specs.declared.job.Job.{Job}
use Rattle.ledger.specs.Ledger.{pump_for, no_charge}

-- some sequence of listed speeds, one for each slot from the clock to the last, is in time for the queue q
abbrev pub Room : ℕ → List ℕ → ℕ → List Job → Type 0
Room slots speeds clock q = (ss : List ℕ) × InTimeSequence (pump_for speeds q no_charge) (slots - clock) clock 0 ss
