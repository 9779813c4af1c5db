-- Words: sound, as a test. An invariant of a struct can hold it: it is an equation.
use Rattle.std.specs.Prelude.{ℕ, Bool, true, false, not, ◌&&◌, ◌||◌, List, [], ◌∷◌, length, Decides, ◌==◌, nat_le, nat_lt}
use Rattle.recursion.specs.Speeds.{lawful_speeds}
use Rattle.ledger.specs.declared.job.Job.{Job}
use Rattle.ledger.specs.Limits.{most_slots, most_jobs, most_work, largest_number}
use Rattle.ledger.specs.Queue.{inside, before, work}
use Rattle.ledger.specs.Ledger.{Ledger, Standing, no_plan, plan, slots_left, pump_for, no_charge, keeps_time, can_be_in_time}
use Rattle.ledger.specs.Sound.{Sound}

abbrev pub each : (Job → Bool) → List Job → Bool
each p [] = true
each p (j ∷ q) = p j && each p q

abbrev pub pairs : (Job → Job → Bool) → List Job → Bool
pairs r [] = true
pairs r (j ∷ q) = each (r j) q && pairs r q

abbrev pub is_in : ℕ → List ℕ → Bool
is_in s [] = false
is_in s (t ∷ ts) = s == t || is_in s ts

abbrev pub listed : List ℕ → List ℕ → Bool
listed speeds [] = true
listed speeds (s ∷ ss) = is_in s speeds && listed speeds ss

abbrev pub fair : ℕ → ℕ → Job → Bool
fair clock slots j =
    nat_le 1 j.number && (nat_le j.number largest_number && (nat_le 1 j.left && (nat_le j.left most_work
    && (nat_lt j.release j.due && (nat_lt clock j.due && nat_le j.due slots)))))

abbrev pub plan_fits : Ledger → Standing → Bool
plan_fits l no_plan = true
plan_fits l (plan mark ss) =
    (length ss == slots_left l)
    && (listed l.speeds ss && keeps_time (pump_for l.speeds l.queue no_charge) l.clock 0 ss)

abbrev pub sound : Ledger → Bool
sound l =
    nat_le 1 l.slots && (nat_le l.slots most_slots && (nat_le l.clock l.slots && (lawful_speeds l.speeds
    && (nat_le (length l.queue) most_jobs && (nat_le (work l.queue) most_work
    && (each (fair l.clock l.slots) l.queue
    && (pairs (λ j i. not (i.number == j.number)) l.queue
    && (pairs before l.queue
    && (pairs (λ j i. not (inside l.clock i j) && not (inside l.clock j i)) l.queue
    && (can_be_in_time l l.queue && plan_fits l l.standing))))))))))

-- the test tells exactly the sound ledgers
abbrev pub SoundIsTested : Type 0
SoundIsTested = (l : Ledger) → Decides (sound l) (Sound l)
