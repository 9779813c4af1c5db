-- Words: wrong planners, verdicts, nestings and measures. Each is refuted, which shows that the promise, the tables and
-- the laws of measures say something.
use Rattle.std.specs.Prelude.{◌≡◌, ℕ, ◌+◌, ◌-◌, max, Bool, true, false, ◌&&◌, ◌||◌, List, [], ◌∷◌, ◌++◌, take, replicate, Some, None, Option, ◌==◌, ◌≢◌, nat_le, nat_lt}
use Rattle.measure.specs.Kinds.{Kind, Laws}
use Rattle.measure.specs.Orders.{Order}
use Rattle.ledger.specs.declared.job.Job.{Job}
use Rattle.ledger.specs.declared.refusal.Refusal.{Refusal}
use Rattle.ledger.specs.declared.refusal.Refusal.TheVariants.{NotInTime}
use Rattle.recursion.specs.Speeds.{top_of}
use Rattle.ledger.specs.Ledger.{Ledger, Charges, Call, booking, slots_left, top_throughout, plan_for, nested, booking_rules, refusal, ledger}
use Rattle.ledger.specs.Answers.{Answer}
use Rattle.ledger.specs.AnswerLaws.{RunIsLawful}
use Rattle.ledger.specs.Promise.{IsBest, ExactVerdict}
use Rattle.ledger.specs.Stays.{job, wide, by_energy, ran_on}

-- a planner whose plans are best after every list of calls, under every tariff and measure
abbrev pub PlansBest : (Ledger → Charges → Order → List ℕ) → Type 0
PlansBest planner = (h : List Call) (t : Charges) (o : Order) → IsBest (ledger h) t o (planner (ledger h) t o)

-- the first speed as planned, then top speed
abbrev pub top_after_first : Ledger → Charges → Order → List ℕ
top_after_first l t o = take 1 (plan_for l t o) ++ replicate (slots_left l - 1) (top_of l.speeds)

-- a verdict on bookings that is exact after every list of calls
abbrev pub VerdictsExact : (Ledger → Job → Option Refusal) → Type 0
VerdictsExact verdict = (h : List Call) (j : Job) → ExactVerdict (ledger h) j (verdict (ledger h) j)

-- nesting by the plain release
abbrev pub inside_plainly : Job → Job → Bool
inside_plainly i j = nat_lt j.release i.release && nat_lt i.due j.due

abbrev pub nested_plainly : Job → List Job → Bool
nested_plainly j [] = false
nested_plainly j (i ∷ q) = inside_plainly j i || (inside_plainly i j || nested_plainly j q)

-- peak first, energy second
pub record PeakEnergy : Type 0 where
  pub peak : ℕ
  pub energy : ℕ

abbrev pub peak_energy : ℕ → ℕ → PeakEnergy
peak_energy p e = record { peak = p; energy = e }

abbrev pub peak_then_energy : Kind PeakEnergy
peak_then_energy = record {
  nought = peak_energy 0 0;
  of = λ c. peak_energy c c;
  join = λ a b. peak_energy (max a.peak b.peak) (a.energy + b.energy);
  not_above = λ a b. nat_lt a.peak b.peak || (a.peak == b.peak && nat_le a.energy b.energy);
}

pub record Refuted : Type 0 where
  -- the planner of the ledger is right; a planner that always takes top speed, or takes it once the first slot is past, is not
  pub planner : PlansBest plan_for
  pub top_throughout_refuted : PlansBest (λ l t o. top_throughout l) → ⊥
  pub top_after_first_refuted : PlansBest top_after_first → ⊥
  -- no planner that ignores its tariff is
  pub tariff_ignored : (planner : Ledger → Order → List ℕ) → PlansBest (λ l t o. planner l o) → ⊥
  -- the verdict of the ledger is right; with the rules before kept, always "not in time", and never, are not
  pub verdict : VerdictsExact (λ l j. refusal l (booking j))
  pub always_late : VerdictsExact (λ l j. booking_rules l j (Some NotInTime)) → ⊥
  pub never_late : VerdictsExact (λ l j. booking_rules l j None) → ⊥
  -- by the plain release the job that is taken after a slot would be nested
  pub plain_release :
      (nested_plainly (job 1 1 3 1) (ledger (ran_on 1 (by_energy ∷ wide))).queue ≡ true)
      × (nested 1 (job 1 1 3 1) (ledger (ran_on 1 (by_energy ∷ wide))).queue ≡ false)
  -- 4 and 9 is below 5 and 1, but behind 6 and 0 they turn round, so the third law fails
  pub peak_then_energy_refuted :
      (peak_then_energy.not_above (peak_energy 4 9) (peak_energy 5 1) ≡ true)
      × (peak_then_energy.not_above (peak_then_energy.join (peak_energy 6 0) (peak_energy 4 9)) (peak_then_energy.join (peak_energy 6 0) (peak_energy 5 1)) ≡ false)
  pub no_measure : Laws peak_then_energy → ⊥
  -- an order that finds all lists level does not order charges as numbers
  pub all_level : (o : Order) → ((a b : List ℕ) → o.not_above a b ≡ true) → ⊥
  -- a slot that leaves the clock alone is no lawful run
  pub clock_alone : (l m : Ledger) (a : Answer) → RunIsLawful l m a → m.clock ≢ l.clock
