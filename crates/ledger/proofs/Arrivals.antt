-- The open work has arrived by the last slot.
use Rattle.std.proofs.Common.{◌≡◌, ℕ, ◌-◌, List, [], ◌∷◌, refl, arith}
use Rattle.std.proofs.lemmas.Bool.Decides.{nat_tests}
use Rattle.ledger.specs.declared.job.Job.{Job}
use Rattle.ledger.specs.Queue.{Each, arrived, work}
use Rattle.ledger.specs.Ledger.{Ledger}
use Rattle.ledger.specs.Sound.{Fair, Sound}
use Rattle.ledger.specs.Theorems.{OpenWorkArrives}

all_arrived : (clock slots : ℕ) (q : List Job) → Each (Fair clock slots) q → arrived q (slots - 1) ≡ work q
all_arrived clock slots [] h = refl
all_arrived clock slots (j ∷ q) (f, r) = grind (arith, nat_tests, all_arrived clock slots q r)

none_open : (clock slots : ℕ) (q : List Job) → clock ≡ slots → Each (Fair clock slots) q → q ≡ []
none_open clock slots [] e h = refl
none_open clock slots (j ∷ q) e (f, r) = absurd (omega arith)

pub open_work_arrives : (l : Ledger) → Sound l → OpenWorkArrives l
open_work_arrives l w =
    record { by_last_slot = all_arrived l.clock l.slots l.queue w.jobs; none_at_end = λ e. none_open l.clock l.slots l.queue e w.jobs }
