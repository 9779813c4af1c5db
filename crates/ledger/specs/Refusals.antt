-- Words: the number of a refusal.
use Rattle.std.specs.Prelude.{ℕ}
use Rattle.ledger.specs.declared.refusal.Refusal.{Refusal}
use Rattle.ledger.specs.declared.refusal.Refusal.TheVariants.{SlotCount, SpeedList, JobNumber, JobSlots, JobWork, NumberOpen, NoRoom, Nested, NotInTime, NoSuchJob, ShortMemory, StayOver, NotPlanned}

abbrev pub refusal_number : Refusal → ℕ
refusal_number SlotCount = 1
refusal_number SpeedList = 2
refusal_number JobNumber = 3
refusal_number JobSlots = 4
refusal_number JobWork = 5
refusal_number NumberOpen = 6
refusal_number NoRoom = 7
refusal_number Nested = 8
refusal_number NotInTime = 9
refusal_number NoSuchJob = 10
refusal_number ShortMemory = 11
refusal_number StayOver = 12
refusal_number NotPlanned = 13
