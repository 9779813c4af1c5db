-- Words: the rules of a booking in two parts, as a stay asks them: those on the job's own numbers, those on the queue.
use Rattle.std.specs.Prelude.{ℕ, ◌+◌, ◌||◌, List, length, Option, ◌==◌, nat_le, nat_lt}
use Rattle.ledger.specs.declared.job.Job.{Job}
use Rattle.ledger.specs.declared.refusal.Refusal.{Refusal}
use Rattle.ledger.specs.declared.refusal.Refusal.TheVariants.{JobNumber, JobSlots, JobWork, NumberOpen, NoRoom, Nested}
use Rattle.ledger.specs.Ledger.{rule, is_open, nested}
use Rattle.ledger.specs.Limits.{most_jobs, most_work, largest_number}
use Rattle.ledger.specs.Queue.{work}

-- the rules of a booking on the job's own numbers, at a clock and with so many slots
abbrev pub job_rules : ℕ → ℕ → Job → Option Refusal → Option Refusal
job_rules clock slots j rest =
    rule JobNumber (j.number == 0 || nat_lt largest_number j.number)
    (rule JobSlots (nat_lt j.release clock || (nat_le j.due j.release || nat_lt slots j.due))
    (rule JobWork (j.left == 0 || nat_lt most_work j.left)
    rest))

-- those on the queue that it would join
abbrev pub queue_rules : ℕ → List Job → Job → Option Refusal → Option Refusal
queue_rules clock q j rest =
    rule NumberOpen (is_open j.number q)
    (rule NoRoom (nat_le most_jobs (length q) || nat_lt most_work (work q + j.left))
    (rule Nested (nested clock j q)
    rest))
