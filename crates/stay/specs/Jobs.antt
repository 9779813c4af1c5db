-- Words: open jobs of a table, place of a number, queue without a place.
use Rattle.std.specs.Prelude.{◌≡◌, ℕ, suc, ◌<◌, false, List, ◌++◌, length, take, drop, Some, None, Option, slice_index_or}
use Rattle.ledger.specs.declared.job.Job.{Job}
use Rattle.ledger.specs.Ledger.{is_open}
use Rattle.stay.specs.declared.table.Table.{Table}

-- what an unused place holds
abbrev pub blank : Job
blank = record { number = 0; release = 0; due = 0; left = 0 }

-- the open jobs, in queue order
abbrev pub queue_of : Table Job → List Job
queue_of t = take t.count t.jobs

-- the place of the first job with the number n, or none where no job has it
abbrev pub PlaceOf : ℕ → List Job → Option ℕ → Type 0
PlaceOf n q None = is_open n q ≡ false
PlaceOf n q (Some i) = (i < length q) × (is_open n (take i q) ≡ false) × ((slice_index_or q i blank).number ≡ n)

-- a queue without the job at place i
abbrev pub without : ℕ → List Job → List Job
without i q = take i q ++ drop (suc i) q
