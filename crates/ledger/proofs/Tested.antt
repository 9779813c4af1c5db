-- The test of a ledger tells exactly whether it is sound.
use Rattle.std.proofs.Common.{◌≡◌, ℕ, Bool, true, not, ◌&&◌, eqb, List, [], ◌∷◌, length, Decides, refl, arith}
use borrow.Author.Tests.{clash}
use Rattle.std.proofs.lemmas.Bool.Decides.{Decides-and, Decides-or, Decides-not, Decides-eqb, Decides-like, nat_tests}
use Rattle.recursion.specs.Staged.{In}
use Rattle.recursion.specs.Pumps.{Listed}
use Rattle.recursion.specs.Speeds.{lawful_speeds}
use Rattle.ledger.specs.declared.job.Job.{Job}
use Rattle.ledger.specs.Limits.{most_slots, most_jobs, most_work}
use Rattle.ledger.specs.Queue.{Each, Pairs, Apart, inside, before, work}
use Rattle.ledger.specs.Ledger.{Ledger, Standing, no_plan, plan, slots_left, pump_for, no_charge, Sequence, top_throughout, can_be_in_time}
use Rattle.ledger.specs.Sound.{Fair, PlanFits}
use Rattle.ledger.specs.SoundTest.{each, pairs, is_in, listed, fair, plan_fits, sound, SoundIsTested}
use Rattle.ledger.proofs.Plans.{decides_leb, decides_in_time, top_sequence, sequence_top}

decides_true : (b : Bool) → Decides b (b ≡ true)
decides_true b = ((λ e. e), λ e. e)

decides_each : (p : Job → Bool) (P : Job → Type 0) → ((j : Job) → Decides (p j) (P j)) → (q : List Job) → Decides (each p q) (Each P q)
decides_each p P d [] = ((λ _. tt), λ _. refl)
decides_each p P d (j ∷ q) = Decides-and (p j) (each p q) (d j) (decides_each p P d q)

decides_pairs : (r : Job → Job → Bool) (R : Job → Job → Type 0) → ((j i : Job) → Decides (r j i) (R j i)) → (q : List Job) → Decides (pairs r q) (Pairs R q)
decides_pairs r R d [] = ((λ _. tt), λ _. refl)
decides_pairs r R d (j ∷ q) = Decides-and (each (r j) q) (pairs r q) (decides_each (r j) (R j) (d j) q) (decides_pairs r R d q)

decides_in : (s : ℕ) (ts : List ℕ) → Decides (is_in s ts) (In s ts)
decides_in s [] = ((λ e. clash e), λ e. absurd e)
decides_in s (t ∷ ts) = Decides-or (eqb s t) (is_in s ts) (Decides-eqb s t) (decides_in s ts)

decides_listed : (speeds ss : List ℕ) → Decides (listed speeds ss) (Listed speeds ss)
decides_listed speeds [] = ((λ _. tt), λ _. refl)
decides_listed speeds (s ∷ ss) = Decides-and (is_in s speeds) (listed speeds ss) (decides_in s speeds) (decides_listed speeds ss)

decides_distinct : (j i : Job) → Decides (not (eqb i.number j.number)) (i.number ≡ j.number → ⊥)
decides_distinct j i = Decides-not (eqb i.number j.number) (Decides-eqb i.number j.number)

decides_apart : (c : ℕ) (j i : Job) → Decides (not (inside c i j) && not (inside c j i)) (Apart c j i)
decides_apart c j i = ((λ h. grind arith), λ a. grind arith)

decides_fair : (c n : ℕ) (j : Job) → Decides (fair c n j) (Fair c n j)
decides_fair c n j = ((λ h. grind (arith, nat_tests)), λ f. grind (arith, nat_tests))

-- `Decides-like`, where the parts come first
decides_by : {P Q : Type 0} (b : Bool) → Decides b P → (P → Q) → (Q → P) → Decides b Q
decides_by b d to from = Decides-like b to from d

decides_plan : (l : Ledger) (p : Standing) → Decides (plan_fits l p) (PlanFits l p)
decides_plan l no_plan = ((λ _. tt), λ _. refl)
decides_plan l (plan mark ss) =
    decides_by (plan_fits l (plan mark ss))
    (Decides-and _ _ (Decides-eqb (length ss) (slots_left l)) (Decides-and _ _ (decides_listed l.speeds ss) (decides_in_time (pump_for l.speeds l.queue no_charge) l.clock 0 ss)))
    (λ h. assumption)
    (λ r. assumption)

pub sound_is_tested : SoundIsTested
sound_is_tested l =
    let q = l.queue in
    let c = l.clock in
    decides_by (sound l)
    (Decides-and _ _ (decides_leb 1 l.slots) (Decides-and _ _ (decides_leb l.slots most_slots) (Decides-and _ _ (decides_leb c l.slots) (Decides-and _ _ (decides_true (lawful_speeds l.speeds))
    (Decides-and _ _ (decides_leb (length q) most_jobs) (Decides-and _ _ (decides_leb (work q) most_work)
    (Decides-and _ _ (decides_each (fair c l.slots) (Fair c l.slots) (decides_fair c l.slots) q)
    (Decides-and _ _ (decides_pairs (λ j i. not (eqb i.number j.number)) (λ j i. i.number ≡ j.number → ⊥) decides_distinct q)
    (Decides-and _ _ (decides_pairs before (λ j i. before j i ≡ true) (λ j i. decides_true (before j i)) q)
    (Decides-and _ _ (decides_pairs (λ j i. not (inside c i j) && not (inside c j i)) (Apart c) (decides_apart c) q)
    (Decides-and _ _ (decides_true (can_be_in_time l q)) (decides_plan l l.standing))))))))))))
    (λ h. let possible : (ss : List ℕ) × Sequence l q ss = (top_throughout l, top_sequence l q h.1.1.1.0 h.1.1.1.1.1.1.1.1.1.1.0) in assumption)
    (λ w. assumption (sequence_top l q w.lawful w.possible.0 w.possible.1))
