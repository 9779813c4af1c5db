-- The states that matter: below the low nothing is in time, and top speed reaches as far as any.
use Rattle.std.proofs.Common.{◌≡◌, ℕ, zero, suc, ◌+◌, ◌<◌, ◌≤◌, min, max, Bool, true, false, cond, leb, List, [], ◌∷◌, length, get_or, drop, sym, refl, ap, ◌∙◌, inl, inr, ⊎_elim, arith}
use Rattle.std.proofs.lemmas.Bool.{cases_lt, cond-true, cond-false, leb-true, le-leb, lt-leb, and_parts, and_from}
use Rattle.measure.specs.Kinds.{Kind}
use Rattle.recursion.specs.Staged.{Best, none, best, lower, lowest, ahead, least, attempt, In, Allowed}
use Rattle.recursion.specs.Pumps.{Pump, work_after, decisions}
use Rattle.recursion.specs.Rows.{tried, best_tried, HoldsLeast}
use Rattle.recursion.specs.Windows.{keeps_up, reach_at, low_for}
use Rattle.recursion.specs.Work.{arrived_at}
use Rattle.recursion.specs.declared.work.SlotWork.{SlotWork}
use Rattle.recursion.proofs.Feeding.{Feeds}
use Rattle.recursion.proofs.Image.{lowest_same_in}

-- where no choice gives anything, nothing is lowest
lowest_none : {M : Type 0} (q : Kind M) (f : ℕ → Best M) (ss : List ℕ) → ((s : ℕ) → In s ss → f s ≡ none) → lowest q none f ss ≡ none
lowest_none q f [] h = refl
lowest_none q f (s ∷ ss) h = ap (λ b. lowest q (lower q none b) f ss) (h s (inl refl)) ∙ lowest_none q f ss (λ t i. h t (inr i))

cond_same : {A : Type 0} (b : Bool) (x : A) → cond b x x ≡ x
cond_same true x = refl
cond_same false x = refl

-- a speed whose work done falls short of what is due, or after which there is no least, comes to nothing
attempt_none : {M : Type 0} (q : Kind M) (y : Pump) (n k e s : ℕ) → (y.due (suc k) ≤ work_after y k e s → least q (decisions y) n (suc k) (work_after y k e s) ≡ none) → attempt q (decisions y) n k e s ≡ none
attempt_none {M} q y n k e s h =
    let f = work_after y k e s in
    let due = y.due (suc k) in
    let m = q.of (y.charge k s) in
    ⊎_elim
    (λ lt. cond-false (leb due f) (ahead q s m (least q (decisions y) n (suc k) f)) none (lt-leb due f lt))
    (λ le. ap (λ (b : Best M). cond (leb due f) (ahead q s m b) none) (h le) ∙ cond_same (leb due f) none)
    (cases_lt f due)

module _ {M : Type 0} (q : Kind M) (y : Pump) (top : ℕ) (tops : (s : ℕ) → In s y.speeds → s ≤ top) where
  pub below_low : (ws : List SlotWork) (k e : ℕ) → Feeds y k ws → e < low_for top ws → least q (decisions y) (length ws) k e ≡ none
  below_low [] k e fed h = absurd (omega arith)
  below_low (w ∷ ws) k e fed h =
      lowest_none q (attempt q (decisions y) (length ws) k e) y.speeds
      (λ s i. attempt_none q y (length ws) k e s (λ le. below_low ws (suc k) (work_after y k e s) fed.2 (omega (arith, tops s i, fed.0, fed.1))))

  -- over a row that holds what is least, what is tried is what the recursion tries
  tried_attempt : (n k e s low high : ℕ) (next : List M) → ((f : ℕ) → f < low → least q (decisions y) n (suc k) f ≡ none) → HoldsLeast q y n (suc k) low high next → work_after y k e s ≤ high → tried q (y.charge k) (y.arrived k) (max (y.due (suc k)) low) next e s ≡ attempt q (decisions y) n k e s
  tried_attempt n k e s low high next none_below holds reached =
      let f = work_after y k e s in
      let due = y.due (suc k) in
      let need = max due low in
      let m = q.of (y.charge k s) in
      let some = best s (q.join m (get_or next f q.nought)) in
      ⊎_elim
      (λ lt.
      cond-false (leb need f) some none (lt-leb need f lt)
      ∙ sym (attempt_none q y n k e s (λ le. none_below f (omega arith))))
      (λ le.
      let h = holds f (omega arith) reached in
      cond-true (leb need f) some none (le-leb need f le)
      ∙ sym (cond-true (leb due f) (ahead q s m (least q (decisions y) n (suc k) f)) none (le-leb due f (omega arith)) ∙ ap (ahead q s m) h.1))
      (cases_lt f need)

  pub row_least : (w : SlotWork) (ws : List SlotWork) (k e high : ℕ) (next : List M) → Feeds y k (w ∷ ws) → HoldsLeast q y (length ws) (suc k) (low_for top ws) (min (high + top) w.arrived) next → e ≤ high → best_tried q (y.charge k) w.arrived (max w.due (low_for top ws)) next y.speeds e ≡ least q (decisions y) (suc (length ws)) k e
  row_least w ws k e high next fed holds h =
      let low = low_for top ws in
      ap (λ (a : ℕ). best_tried q (y.charge k) a (max w.due low) next y.speeds e) (sym fed.0)
      ∙ ap (λ (d : ℕ). best_tried q (y.charge k) (y.arrived k) (max d low) next y.speeds e) (sym fed.1)
      ∙ lowest_same_in q none (tried q (y.charge k) (y.arrived k) (max (y.due (suc k)) low) next e) (attempt q (decisions y) (length ws) k e) y.speeds
      (λ s i. tried_attempt (length ws) k e s low (min (high + top) w.arrived) next (λ f lt. below_low ws (suc k) f fed.2 lt) holds (omega (arith, tops s i, fed.0)))

  -- top speed keeps up wherever some list does
  pub allowed_keeps_up : (ws : List SlotWork) (k e f : ℕ) (cs : List ℕ) → Feeds y k ws → Allowed (decisions y) (length ws) k e cs → e ≤ f → keeps_up top ws f ≡ true
  allowed_keeps_up [] k e f cs fed a h = refl
  allowed_keeps_up (w ∷ ws) k e f [] fed a h = absurd a
  allowed_keeps_up (w ∷ ws) k e f (c ∷ cs) fed a h =
      let le : w.due ≤ min (f + top) w.arrived = omega (arith, leb-true (y.due (suc k)) (work_after y k e c) a.1, tops c a.0, fed.0, fed.1) in
      and_from _ _ (le-leb _ _ le)
      (allowed_keeps_up ws (suc k) (work_after y k e c) (min (f + top) w.arrived) cs fed.2 a.2 (omega (arith, tops c a.0, fed.0)))

-- where top speed keeps up, the work done is not below the low
pub low_under : (top : ℕ) (ws : List SlotWork) (e : ℕ) → keeps_up top ws e ≡ true → low_for top ws ≤ e
low_under top [] e h = omega arith
low_under top (w ∷ ws) e h =
    let p = and_parts _ _ h in
    omega (arith, leb-true w.due (min (e + top) w.arrived) p.0, low_under top ws (min (e + top) w.arrived) p.1)

-- nor does it need more than has arrived
pub need_under : (top : ℕ) (w : SlotWork) (ws : List SlotWork) (e : ℕ) → keeps_up top (w ∷ ws) e ≡ true → max w.due (low_for top ws) ≤ w.arrived
need_under top w ws e h =
    let p = and_parts _ _ h in
    omega (arith, leb-true w.due (min (e + top) w.arrived) p.0, low_under top ws (min (e + top) w.arrived) p.1)

-- one slot more at top speed
pub reach_next : (top : ℕ) (ws : List SlotWork) (e i : ℕ) → i < length ws → reach_at top ws e (suc i) ≡ min (reach_at top ws e i + top) (arrived_at ws i)
reach_next top [] e i h = omega arith
reach_next top (w ∷ ws) e zero h = refl
reach_next top (w ∷ ws) e (suc i) h = reach_next top ws (min (e + top) w.arrived) i (omega arith)

-- top speed keeps up from where it has come to
pub keeps_up_on : (top : ℕ) (ws : List SlotWork) (e i : ℕ) → keeps_up top ws e ≡ true → keeps_up top (drop i ws) (reach_at top ws e i) ≡ true
keeps_up_on top ws e zero h = h
keeps_up_on top [] e (suc i) h = refl
keeps_up_on top (w ∷ ws) e (suc i) h =
    keeps_up_on top ws (min (e + top) w.arrived) i (and_parts _ _ h).1
