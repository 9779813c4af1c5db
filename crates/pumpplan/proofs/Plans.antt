-- What planning answers on the worked stay, by computation.
use Rattle.std.proofs.Common.{◌≡◌, ℕ, List, [], ◌∷◌, get_or, Ok, Err, Result, sym, refl, ap, ◌∙◌, subst, arith}
use Rattle.measure.specs.Energies.{energy, stopped}
use Rattle.measure.specs.declared.amounts.Energy.{Energy}
use Rattle.recursion.specs.Planning.{plan_answer, places_after}
use Rattle.recursion.specs.Pumps.{Pump, planned_speeds}
use Rattle.recursion.specs.Trials.{both_jobs, pump_with}
use Rattle.recursion.specs.declared.unplanned.Unplanned.{Unplanned}
use Rattle.pumpplan.specs.Worked.{worked_energies, worked_plan}
use Rattle.pumpplan.specs.declared.Plan.{Plan}

abbrev pub made : List ℕ → ℕ → Plan
made speeds total = record { speeds = speeds; total = total }

abbrev pub worked_pump : List ℕ → Pump
worked_pump energies = pump_with both_jobs (λ k s. get_or energies s 0)

pub answered : (es : List ℕ) → es ≡ worked_energies → plan_answer energy (worked_pump es) 0 both_jobs 24 12 4 ≡ Ok (stopped 24)
answered es e = subst (λ (v : List ℕ). plan_answer energy (worked_pump v) 0 both_jobs 24 12 4 ≡ Ok (stopped 24)) (sym e) refl

pub speeds_are : (es : List ℕ) → es ≡ worked_energies → planned_speeds energy (worked_pump es) 4 0 0 ≡ 0 ∷ 3 ∷ 1 ∷ 1 ∷ []
speeds_are es e = subst (λ (v : List ℕ). planned_speeds energy (worked_pump v) 4 0 0 ≡ 0 ∷ 3 ∷ 1 ∷ 1 ∷ []) (sym e) refl

pub not_refused : (r : Result Energy Unplanned) (m : Energy) (u : Unplanned) → r ≡ Ok m → r ≡ Err u → ⊥
not_refused r m u e f = let z : ◌≡◌ {A = ℕ} 0 1 = cc in omega arith

same_answer : (r : Result Energy Unplanned) (m n : Energy) → r ≡ Ok m → r ≡ Ok n → m ≡ n
same_answer r m n e f = cc

-- the plan as it is put together from the answer
pub put_together : (es chosen before : List ℕ) (r : Result Energy Unplanned) (m : Energy) (total : ℕ) → es ≡ worked_energies → r ≡ plan_answer energy (worked_pump es) 0 both_jobs 24 12 4 → r ≡ Ok m → chosen ≡ places_after r (planned_speeds energy (worked_pump es) 4 0 0) before → total ≡ m.value → made chosen total ≡ worked_plan
put_together es chosen before r m total known answer ok placed told =
    let speeds : chosen ≡ 0 ∷ 3 ∷ 1 ∷ 1 ∷ [] = placed ∙ ap (λ (v : Result Energy Unplanned). places_after v (planned_speeds energy (worked_pump es) 4 0 0) before) ok ∙ speeds_are es known in
    let sum : total ≡ 24 = told ∙ ap (λ (v : Energy). v.value) (same_answer r m (stopped 24) ok (answer ∙ answered es known)) in
    ap (λ (v : List ℕ). made v total) speeds ∙ ap (made (0 ∷ 3 ∷ 1 ∷ 1 ∷ [])) sum
