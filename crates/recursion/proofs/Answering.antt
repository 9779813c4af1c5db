-- From the rows and the table to what planning answers.
use Rattle.std.proofs.Common.{◌≡◌, ℕ, suc, ◌+◌, ◌*◌, ◌<◌, ◌≤◌, min, true, false, cond, not, List, [], ◌∷◌, length, get_or, drop, Err, sym, refl, ap, ◌∙◌, subst, ⊎_elim, arith}
use borrow.Author.Tests.{clash}
use Rattle.std.proofs.Math.Seq.{drop-cons}
use Rattle.std.proofs.lemmas.List.{length-drop}
use Rattle.std.proofs.lemmas.Bool.{cases_lt, cond-false, not_from_true}
use Rattle.measure.specs.Kinds.{Kind}
use Rattle.recursion.specs.Staged.{Best, none, best, choice_of, least, planned, In}
use Rattle.recursion.specs.Planning.{slots_wrong, memory_short, least_or, plan_answer}
use Rattle.recursion.specs.Pumps.{Pump, work_after, decisions}
use Rattle.recursion.specs.Speeds.{lawful_speeds}
use Rattle.recursion.specs.Rows.{HoldsPlan, followed}
use Rattle.recursion.specs.Windows.{keeps_up, reach_at, low_for}
use Rattle.recursion.specs.Work.{no_work}
use Rattle.recursion.specs.declared.unplanned.Unplanned.TheVariants.{Slots, Speeds, Memory}
use Rattle.recursion.specs.declared.work.SlotWork.{SlotWork}
use Rattle.recursion.proofs.Ranked.{Ranked}
use Rattle.recursion.proofs.Optimum.{none_best, optimal, recursion}
use Rattle.recursion.proofs.Feeding.{Feeds, feeds_drop}
use Rattle.recursion.proofs.Matters.{below_low, allowed_keeps_up, low_under, reach_next}

module _ {M : Type 0} {q : Kind M} (laws : Ranked q) (y : Pump) (top : ℕ) (tops : (s : ℕ) → In s y.speeds → s ≤ top) (first : ℕ) (work : List SlotWork) (fed : Feeds y first work) where
  -- the speeds read off the table are the planned ones
  pub followed_planned : (width : ℕ) (table : List ℕ) → HoldsPlan q y top first work width 0 table → (ws : List SlotWork) (i e : ℕ) → drop i work ≡ ws → low_for top ws ≤ e → e ≤ reach_at top work 0 i → followed width table ws i e ≡ planned q (decisions y) (length ws) (first + i) e
  followed_planned width table holds [] i e at low high = refl
  followed_planned width table holds (w ∷ ws) i e at low high =
      let k = first + i in
      let s = get_or table (i * width + e) 0 in
      let inside : i < length work = omega (arith, length-drop i work, ap length at) in
      let split = drop-cons work i no_work inside in
      let here : get_or work i no_work ≡ w = cc in
      let behind : drop (suc i) work ≡ ws = cc in
      let feed : Feeds y k (w ∷ ws) = subst (λ (l : List SlotWork). Feeds y k l) at (feeds_drop y first work i fed) in
      let entry = holds i e (omega arith) inside (subst (λ (l : List SlotWork). low_for top l ≤ e) (sym at) low) high in
      let is : least q (decisions y) (suc (length ws)) k e ≡ best s entry.0 =
      subst (λ (l : List SlotWork). least q (decisions y) (length l) k e ≡ best s entry.0) at entry.1 in
      let fit = (recursion laws (decisions y) (length ws) k e).reached s entry.0 is in
      let f = min (e + s) w.arrived in
      let same : work_after y k e s ≡ f = ap (min (e + s)) feed.0 in
      let after : least q (decisions y) (length ws) (suc k) f ≡ best fit.onward fit.rest =
      subst (λ (v : ℕ). least q (decisions y) (length ws) (suc k) v ≡ best fit.onward fit.rest) same fit.after in
      let low' : low_for top ws ≤ f =
      ⊎_elim
      (λ lt. absurd (none_best fit.onward fit.rest (sym (below_low q y top tops ws (suc k) f feed.2 lt) ∙ after)))
      (λ le. le)
      (cases_lt f (low_for top ws)) in
      let far : reach_at top work 0 (suc i) ≡ min (reach_at top work 0 i + top) w.arrived =
      reach_next top work 0 i inside ∙ ap (λ (v : SlotWork). min (reach_at top work 0 i + top) v.arrived) here in
      let high' : f ≤ reach_at top work 0 (suc i) = omega (arith, tops s fit.listed, far) in
      let on : first + suc i ≡ suc k = omega arith in
      let rest : followed width table ws (suc i) f ≡ planned q (decisions y) (length ws) (suc k) f =
      followed_planned width table holds ws (suc i) f behind low' high' ∙ ap (λ (v : ℕ). planned q (decisions y) (length ws) v f) on in
      let chosen : s ≡ choice_of (least q (decisions y) (suc (length ws)) k e) = ap choice_of (sym is) in
      let P : ℕ → Type 0 = λ v. s ∷ followed width table ws (suc i) f ≡ v ∷ planned q (decisions y) (length ws) (suc k) (work_after y k e v) in
      subst P chosen (ap (λ (l : List ℕ). s ∷ l) (rest ∙ ap (planned q (decisions y) (length ws) (suc k)) (sym same)))

  pub first_planned : keeps_up top work 0 ≡ true → (width : ℕ) (table : List ℕ) → HoldsPlan q y top first work width 0 table → followed width table work 0 0 ≡ planned q (decisions y) (length work) first 0
  first_planned up width table holds =
      let here : first + 0 ≡ first = omega arith in
      followed_planned width table holds work 0 0 refl (low_under top work 0 up) (omega arith) ∙ ap (λ (v : ℕ). planned q (decisions y) (length work) v 0) here

  -- where top speed does not keep up there is no least
  late_is : (b : Best M) → least q (decisions y) (length work) first 0 ≡ b → keeps_up top work 0 ≡ false → b ≡ none
  late_is none e late = refl
  late_is (best c m) e late =
      absurd (clash (sym late ∙ allowed_keeps_up q y top tops work first 0 0 (planned q (decisions y) (length work) first 0) fed ((optimal laws (decisions y) (length work) first 0).reached c m e).0 (omega arith)))

  pub late_none : keeps_up top work 0 ≡ false → least q (decisions y) (length work) first 0 ≡ none
  late_none late = late_is (least q (decisions y) (length work) first 0) refl late

-- where no rule before it refuses, planning answers the least
pub answer_least : {M : Type 0} (q : Kind M) (y : Pump) (first : ℕ) (work : List SlotWork) (bytes measures places : ℕ) → slots_wrong first work places ≡ false → lawful_speeds y.speeds ≡ true → memory_short work bytes measures ≡ false → plan_answer q y first work bytes measures places ≡ least_or (least q (decisions y) (length work) first 0)
answer_least q y first work bytes measures places slots lawful memory =
    let z = least_or (least q (decisions y) (length work) first 0) in
    let m = cond (memory_short work bytes measures) (Err Memory) z in
    cond-false (slots_wrong first work places) (Err Slots) (cond (not (lawful_speeds y.speeds)) (Err Speeds) m) slots
    ∙ cond-false (not (lawful_speeds y.speeds)) (Err Speeds) m (not_from_true (lawful_speeds y.speeds) lawful)
    ∙ cond-false (memory_short work bytes measures) (Err Memory) z memory
