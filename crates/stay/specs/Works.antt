-- Words: the work ahead, as planning is told it; speeds in the places of their slots.
use Rattle.std.specs.Prelude.{◌≡◌, ℕ, zero, suc, ◌-◌, List, [], ◌∷◌, take, drop, Ok, Err, Result}
use Rattle.recursion.specs.declared.work.SlotWork.{SlotWork}
use Rattle.ledger.specs.declared.job.Job.{Job}
use Rattle.ledger.specs.declared.refusal.Refusal.{Refusal}
use Rattle.ledger.specs.Queue.{arrived, owed}

-- of each of the n slots from k, what is owed by its end and what has arrived by it
abbrev pub work_ahead : List Job → ℕ → ℕ → List SlotWork
work_ahead q k zero = []
work_ahead q k (suc n) = record { due = owed q (suc k); arrived = arrived q k } ∷ work_ahead q (suc k) n

-- the places of the slots from the clock to the last hold the speeds of an accepted plan; a refusal leaves all places as they were
abbrev pub Placed : {Y : Type 0} → Result Y Refusal → ℕ → ℕ → List ℕ → List ℕ → List ℕ → Type 0
Placed (Ok y) clock slots speeds was is = take (slots - clock) (drop clock is) ≡ speeds
Placed (Err r) clock slots speeds was is = is ≡ was
