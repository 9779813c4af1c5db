-- Words: the laws of the questions. For which places and slots there is an answer.
use Rattle.std.specs.Prelude.{◌≡◌, ℕ, ◌<◌, ◌≤◌, true, false, length, Some, None}
use Rattle.recursion.specs.Staged.{In}
use Rattle.ledger.specs.declared.job.Job.{Job}
use Rattle.ledger.specs.Ledger.{Ledger, running, is_planned, refusal}
use Rattle.ledger.specs.Answers.{speed_now, job_at, speed_at, mark_of}

pub record QuestionsAreLawful (l : Ledger) : Type 0 where
  -- a job stands at each place below the count, and at no other
  pub job_below : (i : ℕ) → i < length l.queue → (j : Job) × (job_at l i ≡ Some j)
  pub no_job_past : (i : ℕ) → length l.queue ≤ i → job_at l i ≡ None
  -- while a plan stands, each slot not yet run has a listed speed, and no other slot has any
  pub speed_ahead : is_planned l.standing ≡ true → (k : ℕ) → l.clock ≤ k → k < l.slots → (s : ℕ) × In s l.speeds × (speed_at l k ≡ Some s)
  pub no_speed_run : (k : ℕ) → k < l.clock → speed_at l k ≡ None
  pub no_speed_past : (k : ℕ) → l.slots ≤ k → speed_at l k ≡ None
  pub mark_while_planned : is_planned l.standing ≡ true → (m : ℕ) × (mark_of l ≡ Some m)
  -- without a plan there is neither
  pub no_speed_unplanned : is_planned l.standing ≡ false → (k : ℕ) → speed_at l k ≡ None
  pub no_mark_unplanned : is_planned l.standing ≡ false → mark_of l ≡ None
  -- the slot run next runs at the standing speed of the clock
  pub speed_next : refusal l running ≡ None → speed_at l l.clock ≡ Some (speed_now l.standing)
