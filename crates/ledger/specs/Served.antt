-- Words: still open, first served, what serves the first in the queue first.
use Rattle.std.specs.Prelude.{◌≡◌, ℕ, ◌+◌, ◌≤◌, min, ◌⊎◌, List, [], ◌∷◌, ◌++◌, reverse}
use Rattle.ledger.specs.declared.job.Job.{Job}
use Rattle.ledger.specs.AnswerLaws.{RunIsLawful}
use Rattle.ledger.specs.Answers.{Answer}
use Rattle.ledger.specs.Ledger.{Ledger}
use Rattle.ledger.specs.Queue.{Distinct, arrived, work, pump_slot}

-- r is what is left of q: each job of q is gone, or stands in its place, with its number and slots, and no more left than it had
abbrev pub StillOpen : List Job → List Job → Type 0
StillOpen [] r = r ≡ []
StillOpen (j ∷ q) r =
    StillOpen q r
    ⊎ ((n : ℕ) × (rest : List Job) × (1 ≤ n) × (n ≤ j.left) × (r ≡ record { number = j.number; release = j.release; due = j.due; left = n } ∷ rest) × StillOpen q rest)

-- first in the queue, first served: in slot k at speed s the work of the queue's front falls by the smaller of s and what
-- has arrived of it, whatever stands behind; r is the queue after the slot, what is left of the front and then of the back
pub record FirstServed (k s : ℕ) (front back r : List Job) : Type 0 where
  pub of_front : List Job
  pub of_back : List Job
  pub is : r ≡ of_front ++ of_back
  pub front_open : StillOpen front of_front
  pub back_open : StillOpen back of_back
  pub falls : work front ≡ work of_front + min s (arrived front k)

-- the law that the first in the queue is served first leaves no choice: of jobs with numbers of their own, a slot makes just
-- the one queue
abbrev pub FirstServedPins : Type 0
FirstServedPins =
    (k s : ℕ) (q r : List Job) → Distinct q → ((front back : List Job) → q ≡ front ++ back → FirstServed k s front back r) → r ≡ pump_slot k s q

-- a lawful run slot keeps this law at every front of the queue, so the law says what each job loses
abbrev pub RunsServeFirst : Type 0
RunsServeFirst =
    (l m : Ledger) (a : Answer) (run : RunIsLawful l m a) (front back : List Job) → l.queue ≡ front ++ back → FirstServed l.clock run.speed front back m.queue

-- a way to pump a slot that serves the first in the queue first
abbrev pub ServesFirst : (ℕ → ℕ → List Job → List Job) → Type 0
ServesFirst pump = (k s : ℕ) (front back : List Job) → FirstServed k s front back (pump k s (front ++ back))

-- a slot pumped from the back of the queue, which does not
abbrev pub pumped_from_back : ℕ → ℕ → List Job → List Job
pumped_from_back k s q = reverse (pump_slot k s (reverse q))
