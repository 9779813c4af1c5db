-- Words: the limits of a stay.
use Rattle.std.specs.Prelude.{ℕ}

abbrev pub most_slots : ℕ
most_slots = 96

abbrev pub most_jobs : ℕ
most_jobs = 64

-- units, of one job and of all open ones
abbrev pub most_work : ℕ
most_work = 600

abbrev pub largest_number : ℕ
largest_number = 999999
