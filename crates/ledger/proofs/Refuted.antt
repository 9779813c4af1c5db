-- Wrong planners and verdicts fail the promise on a stay of the tables, and a wrong measure its third law.
use Rattle.std.proofs.Common.{◌≡◌, ℕ, zero, suc, Bool, true, not, ◌&&◌, List, [], ◌∷◌, length, sym, refl, ◌∙◌, inl, inr, arith}
use borrow.Author.Tests.{clash}
use Rattle.std.proofs.lemmas.Bool.{and_parts, and_from, not-true}
use Rattle.measure.specs.Orders.{Order}
use Rattle.recursion.specs.Staged.{In}
use Rattle.recursion.specs.Pumps.{Listed}
use Rattle.ledger.specs.Ledger.{Ledger, Charges, Call, running, pump_for, no_charge, keeps_time, plan_for, charges_of, ledger}
use Rattle.ledger.specs.Promise.{Rival, IsBest}
use Rattle.ledger.specs.Stays.{energies, table, priced_table, job, bare, both}
use Rattle.ledger.specs.Wrong.{PlansBest, peak_energy, Refuted}
use Rattle.ledger.proofs.Kept.{sound_sorted, ledger_sound}
use Rattle.ledger.proofs.Plans.{decides_in_time}
use Rattle.ledger.proofs.Promised.{promised, rival_sequence}

-- ## Every sequence

-- a test of each speed of a list, and of each list of n of them
abbrev of_each : List ℕ → (ℕ → Bool) → Bool
of_each [] p = true
of_each (s ∷ ss) p = p s && of_each ss p

abbrev of_all : ℕ → List ℕ → (List ℕ → Bool) → Bool
of_all zero speeds p = p []
of_all (suc n) speeds p = of_each speeds (λ s. of_all n speeds (λ ss. p (s ∷ ss)))

of_each_lem : (speeds : List ℕ) (p : ℕ → Bool) → of_each speeds p ≡ true → (s : ℕ) → In s speeds → p s ≡ true
of_each_lem [] p h s i = absurd i
of_each_lem (t ∷ ts) p h s (inl e) = rw e (and_parts (p t) (of_each ts p) h).0
of_each_lem (t ∷ ts) p h s (inr i) = of_each_lem ts p (and_parts (p t) (of_each ts p) h).1 s i

of_all_lem : (n : ℕ) (speeds : List ℕ) (p : List ℕ → Bool) → of_all n speeds p ≡ true → (ss : List ℕ) → length ss ≡ n → Listed speeds ss → p ss ≡ true
of_all_lem zero speeds p h [] e l = h
of_all_lem zero speeds p h (s ∷ ss) e l = absurd (omega arith)
of_all_lem (suc n) speeds p h [] e l = absurd (omega arith)
of_all_lem (suc n) speeds p h (s ∷ ss) e (l, ls) =
    of_all_lem n speeds (λ ts. p (s ∷ ts)) (of_each_lem speeds (λ t. of_all n speeds (λ ts. p (t ∷ ts))) h s l) ss (omega arith) ls

-- ## Planners

-- the plan is a rival
the_plan : (h : List Call) (t : Charges) (o : Order) → Rival (ledger h) (plan_for (ledger h) t o)
the_plan h t o = ((promised h running).at_the_call.next_plan_is_best t o).finishes

-- the best charges are not above those of the plan
not_above_plan : (h : List Call) (t : Charges) (o : Order) (ss : List ℕ) → IsBest (ledger h) t o ss → o.not_above (charges_of (ledger h) t ss) (charges_of (ledger h) t (plan_for (ledger h) t o)) ≡ true
not_above_plan h t o ss b = b.none_below (plan_for (ledger h) t o) (the_plan h t o)

-- in time, and under both tariffs not above the plan
abbrev best_of_both : List ℕ → Bool
best_of_both ss =
    keeps_time (pump_for (0 ∷ 1 ∷ 3 ∷ []) (ledger both).queue no_charge) 0 0 ss
    && (energies.not_above (charges_of (ledger both) table ss) (charges_of (ledger both) table (plan_for (ledger both) table energies))
    && energies.not_above (charges_of (ledger both) priced_table ss) (charges_of (ledger both) priced_table (plan_for (ledger both) priced_table energies)))

tariff_ignored : (planner : Ledger → Order → List ℕ) → PlansBest (λ l t o. planner l o) → ⊥
tariff_ignored planner f =
    let l = ledger both in
    let ss = planner l energies in
    let plain = f both table energies in
    let r = rival_sequence l ss (sound_sorted l (ledger_sound both)) plain.finishes in
    let b : best_of_both ss ≡ true =
    and_from (keeps_time (pump_for l.speeds l.queue no_charge) 0 0 ss) _
    ((decides_in_time (pump_for l.speeds l.queue no_charge) 0 0 ss).1 r.in_time)
    (and_from _ _ (not_above_plan both table energies ss plain) (not_above_plan both priced_table energies ss (f both priced_table energies))) in
    clash (sym (not-true (best_of_both ss) (of_all_lem 4 (0 ∷ 1 ∷ 3 ∷ []) (λ us. not (best_of_both us)) refl ss r.each_slot r.listed)) ∙ b)

pub refuted : Refuted
refuted = record {
  planner = λ h t o. (promised h running).at_the_call.next_plan_is_best t o;
  top_throughout_refuted = λ f. clash (not_above_plan both table energies _ (f both table energies));
  top_after_first_refuted = λ f. clash (not_above_plan both table energies _ (f both table energies));
  tariff_ignored = tariff_ignored;
  verdict = λ h j. (promised h running).at_the_call.next_booking_is_exact j;
  always_late = λ f.
      let r = ((promised bare running).at_the_call.next_booking_is_exact (job 1 0 1 3)).taken_rightly refl in
      (f bare (job 1 0 1 3)).refused_rightly refl r.0 r.1;
  never_late = λ f.
      let r = (f bare (job 1 0 1 4)).taken_rightly refl in
      ((promised bare running).at_the_call.next_booking_is_exact (job 1 0 1 4)).refused_rightly refl r.0 r.1;
  plain_release = (refl, refl);
  peak_then_energy_refuted = (refl, refl);
  all_level = λ o level. clash (sym (o.faithful 1 0 (omega arith) (omega arith)) ∙ level (1 ∷ []) (0 ∷ []));
  clock_alone = λ l m a w e. omega (arith, w.clock, e);
  no_measure = λ w. clash (w.monotone (peak_energy 4 9) (peak_energy 5 1) (peak_energy 6 0) refl);
}
