-- A turn of the loop over the slots: one row more of the table, one measure row for another.
use Rattle.std.proofs.Common.{◌≡◌, ℕ, zero, suc, ◌+◌, ◌-◌, ◌*◌, ◌<◌, ◌≤◌, min, max, true, List, [], ◌∷◌, ◌++◌, length, get_or, take, drop, sym, ap, ◌∙◌, subst, ⊎_elim, mul-le-mul_right, add-mul, one-mul, add-one, arith}
use Rattle.std.proofs.lemmas.List.{drop_more, take_more, length_push, same_from_push, drop_all, get_or_append_left, get_or-append_right, get_or-drop, get_or_read, length-take, length-take-le, length-drop}
use Rattle.std.proofs.lemmas.Bool.{cases_lt}
use Rattle.measure.specs.Kinds.{Kind}
use Rattle.recursion.specs.Staged.{best, least, In}
use Rattle.recursion.specs.Pumps.{Pump, decisions}
use Rattle.recursion.specs.Rows.{best_tried, Picked, HoldsLeast, HoldsPlan}
use Rattle.recursion.specs.Windows.{keeps_up, reach_at, low_for}
use Rattle.recursion.specs.Work.{no_work, arrived_at, due_at, most_arrived}
use Rattle.recursion.specs.declared.work.SlotWork.{SlotWork}
use Rattle.recursion.proofs.Feeding.{Feeds, feeds_drop}
use Rattle.recursion.proofs.Matters.{row_least, low_under, need_under, reach_next, keeps_up_on}

-- the row that is written lies in its place, and what stands behind it stays
row_in : (t c : List ℕ) (a b w e : ℕ) → a ≤ length t → length c ≡ w → e < w → get_or (take a t ++ (c ++ drop (b - a) (drop a t))) (a + e) 0 ≡ get_or c e 0
row_in t c a b w e fits size h =
    let back : a + e - a ≡ e = omega arith in
    get_or-append_right (take a t) (c ++ drop (b - a) (drop a t)) a (a + e) 0 (length-take-le a t fits) (omega arith)
    ∙ ap (λ (n : ℕ). get_or (c ++ drop (b - a) (drop a t)) n 0) back
    ∙ get_or_append_left c (drop (b - a) (drop a t)) 0 e (omega arith)

row_behind : (t c : List ℕ) (a b w i : ℕ) → b ≡ a + w → b ≤ length t → length c ≡ w → b ≤ i → get_or (take a t ++ (c ++ drop (b - a) (drop a t))) i 0 ≡ get_or t i 0
row_behind t c a b w i e fits size h =
    let place : a + ((b - a) + ((i - a) - w)) ≡ i = omega arith in
    get_or-append_right (take a t) (c ++ drop (b - a) (drop a t)) a i 0 (length-take-le a t (omega arith)) (omega arith)
    ∙ get_or-append_right c (drop (b - a) (drop a t)) w (i - a) 0 size (omega arith)
    ∙ get_or-drop (b - a) (drop a t) ((i - a) - w) 0
    ∙ get_or-drop a t ((b - a) + ((i - a) - w)) 0
    ∙ ap (λ (v : ℕ). get_or t v 0) place

pub most_at : (ws : List SlotWork) (i : ℕ) → arrived_at ws i ≤ most_arrived ws
most_at [] i = omega arith
most_at (w ∷ ws) zero = omega arith
most_at (w ∷ ws) (suc i) = omega (arith, most_at ws i)

pub reach_most : (top : ℕ) (ws : List SlotWork) (e i : ℕ) → reach_at top ws e i ≤ max e (most_arrived ws)
reach_most top ws e zero = omega arith
reach_most top [] e (suc i) = omega arith
reach_most top (w ∷ ws) e (suc i) = omega (arith, reach_most top ws (min (e + top) w.arrived) i)

-- the slot at place i needs no more than has arrived, and its low is not above its reach
pub record SlotRoom (top : ℕ) (ws : List SlotWork) (i : ℕ) : Type 0 where
  pub enough : max (due_at ws i) (low_for top (drop (i + 1) ws)) ≤ arrived_at ws i
  pub ordered : max (due_at ws i) (low_for top (drop (i + 1) ws)) - top ≤ reach_at top ws 0 i

pub slot_room : (top : ℕ) (ws : List SlotWork) (i : ℕ) → i < length ws → keeps_up top ws 0 ≡ true → SlotRoom top ws i
slot_room top ws i h up =
    let w = get_or ws i no_work in
    let rest = drop (i + 1) ws in
    let here : keeps_up top (w ∷ rest) (reach_at top ws 0 i) ≡ true = subst (λ (l : List SlotWork). keeps_up top l (reach_at top ws 0 i) ≡ true) (drop_more ws i no_work h) (keeps_up_on top ws 0 i up) in
    record { enough = need_under top w rest (reach_at top ws 0 i) here; ordered = low_under top (w ∷ rest) (reach_at top ws 0 i) here }

-- the slots from place i on are done: a row of measures for that slot, and the table
pub record Filled {M : Type 0} (q : Kind M) (y : Pump) (top first : ℕ) (work : List SlotWork) (width : ℕ) (next : List M) (bytes : List ℕ) (low i : ℕ) : Type 0 where
  pub low_is : low ≡ low_for top (drop i work)
  pub row : HoldsLeast q y (length (drop i work)) (first + i) low (reach_at top work 0 i) next
  pub table : HoldsPlan q y top first work width i bytes

module _ {M : Type 0} (q : Kind M) (y : Pump) (top : ℕ) (tops : (s : ℕ) → In s y.speeds → s ≤ top) (first : ℕ) (work : List SlotWork) (fed : Feeds y first work) (width : ℕ) where
  pub filled_last : (next : List M) (bytes : List ℕ) → ((e : ℕ) → e ≤ reach_at top work 0 (length work) → get_or next e q.nought ≡ q.nought) → Filled q y top first work width next bytes 0 (length work)
  filled_last next bytes noughts =
      let n = length work in
      let end : [] ≡ drop n work = sym (drop_all n work (omega arith)) in
      record {
        low_is = ap (low_for top) end;
        row = subst (λ (l : List SlotWork). HoldsLeast q y (length l) (first + n) 0 (reach_at top work 0 n) next) end (λ e h i. (0, ap (best 0) (sym (noughts e i))));
        table = λ j e h i l r. absurd (omega arith);
      }

  pub filled_next : (i l : ℕ) (next row : List M) (bytes picks : List ℕ) (low need low' : ℕ) → l ≡ i + 1 → l ≤ length work → Filled q y top first work width next bytes low l →
      need ≡ max (due_at work i) low → low' ≡ need - top → most_arrived work < width → length picks ≡ width → length work * width ≤ length bytes →
      Picked q (y.charge (first + i)) (arrived_at work i) need next y.speeds low' (reach_at top work 0 i) row picks →
      Filled q y top first work width row (take (i * width) bytes ++ (picks ++ drop ((i + 1) * width - i * width) (drop (i * width) bytes))) low' i
  filled_next i l next row bytes picks low need low' on within inv needed lowered wide size fits picked =
      let inside : i < length work = omega arith in
      let w = get_or work i no_work in
      let ws = drop (i + 1) work in
      let here : drop i work ≡ w ∷ ws = drop_more work i no_work inside in
      let low_then : low ≡ low_for top ws = inv.low_is ∙ ap (λ (v : ℕ). low_for top (drop v work)) on in
      let need_is : need ≡ max w.due (low_for top ws) = needed ∙ ap (max w.due) low_then in
      let low_here : low' ≡ low_for top (drop i work) = lowered ∙ ap (λ (v : ℕ). v - top) need_is ∙ sym (ap (low_for top) here) in
      let far : reach_at top work 0 l ≡ min (reach_at top work 0 i + top) w.arrived = ap (reach_at top work 0) (on ∙ add-one i) ∙ reach_next top work 0 i inside in
      let slot : first + l ≡ suc (first + i) = omega arith in
      let after : HoldsLeast q y (length ws) (suc (first + i)) (low_for top ws) (min (reach_at top work 0 i + top) w.arrived) next =
      subst (λ (v : ℕ). HoldsLeast q y (length ws) (suc (first + i)) (low_for top ws) v next) far
      (subst (λ (v : ℕ). HoldsLeast q y (length ws) (suc (first + i)) v (reach_at top work 0 l) next) low_then
      (subst (λ (v : ℕ). HoldsLeast q y (length ws) v low (reach_at top work 0 l) next) slot
      (subst (λ (v : ℕ). HoldsLeast q y (length (drop v work)) (first + l) low (reach_at top work 0 l) next) on inv.row))) in
      let feed : Feeds y (first + i) (w ∷ ws) = subst (λ (x : List SlotWork). Feeds y (first + i) x) here (feeds_drop y first work i fed) in
      let is : (e : ℕ) → low' ≤ e → e ≤ reach_at top work 0 i → least q (decisions y) (length (drop i work)) (first + i) e ≡ best (get_or picks e 0) (get_or row e q.nought) =
      λ e h j. sym (picked e h j
      ∙ ap (λ (v : ℕ). best_tried q (y.charge (first + i)) w.arrived v next y.speeds e) need_is
      ∙ row_least q y top tops w ws (first + i) e (reach_at top work 0 i) next feed after j
      ∙ ap (λ (x : List SlotWork). least q (decisions y) (length x) (first + i) e) (sym here)) in
      let a = i * width in
      let b = (i + 1) * width in
      let next_row : b ≡ a + width = add-mul i 1 width ∙ ap (λ (v : ℕ). a + v) (one-mul width) in
      let last : b ≤ length work * width = mul-le-mul_right width (omega arith) in
      let table' = take a bytes ++ (picks ++ drop (b - a) (drop a bytes)) in
      record {
        low_is = low_here;
        row = λ e h j. (get_or picks e 0, is e h j);
        table = λ j e h k from to. ⊎_elim
            (λ lt.
            let past : b ≤ j * width = mul-le-mul_right width (omega arith) in
            let old = inv.table j e (omega arith) k from to in
            (old.0, old.1 ∙ ap (λ (v : ℕ). best v old.0) (sym (row_behind bytes picks a b width (j * width + e) next_row (omega arith) size (omega arith)))))
            (λ ge.
            let same : i ≡ j = omega arith in
            let P : ℕ → Type 0 = λ v. low_for top (drop v work) ≤ e → e ≤ reach_at top work 0 v → (m : M) × (least q (decisions y) (length (drop v work)) (first + v) e ≡ best (get_or table' (v * width + e) 0) m) in
            let at : P i = λ f t.
            let under : reach_at top work 0 i ≤ most_arrived work = omega (arith, reach_most top work 0 i) in
            (get_or row e q.nought, is e (omega arith) t ∙ ap (λ (v : ℕ). best v (get_or row e q.nought)) (sym (row_in bytes picks a b width e (omega arith) size (omega arith)))) in
            subst P same at from to)
            (cases_lt i j);
      }

-- a turn at the slot w of place i, the last of those still to come: where it stands, and what filling its row asks
pub record Turn (top : ℕ) (work rest' : List SlotWork) (w : SlotWork) (i l high need low low' width : ℕ) : Type 0 where
  pub first_ones : rest' ≡ take (length rest') work
  pub size : length rest' ≡ i
  pub on : l ≡ i + 1
  pub within : l ≤ length work
  pub arrived : w.arrived ≡ arrived_at work i
  pub needed : need ≡ max (due_at work i) low
  pub lowered : low' ≡ need - top
  pub high_is : high ≡ reach_at top work 0 i
  pub ordered : low' ≤ high
  pub arrived_in : w.arrived < width
  pub high_in : high < width
  pub enough : need ≤ min (low' + top) w.arrived
  pub wide : (i + 1) * width ≡ i * width + width
  pub last : (i + 1) * width ≤ length work * width

pub turn : {top : ℕ} {work rest rest' : List SlotWork} {w : SlotWork} (reach : List ℕ) {i need low low' width : ℕ} → rest ≡ take (length rest) work → rest ≡ rest' ++ (w ∷ []) → i ≡ length rest' →
    ((j : ℕ) → j ≤ length work → get_or reach j 0 ≡ reach_at top work 0 j) → keeps_up top work 0 ≡ true → low ≡ low_for top (drop (length rest) work) → need ≡ max w.due low → low' ≡ need - top → width ≡ most_arrived work + 1 →
    Turn top work rest' w i (length rest) (get_or reach i 0) need low low' width
turn {top} {work} {rest} {rest'} {w} reach {i} {need} {low} {low'} {width} first_ones more place reached up low_is needed lowered wide =
    let n = length rest' in
    let size : length rest ≡ n + 1 = ap length more ∙ length_push rest' w in
    let within : length rest ≤ length work = omega (arith, ap length first_ones, length-take (length rest) work) in
    let cut : rest' ++ (w ∷ []) ≡ take n work ++ (get_or work n no_work ∷ []) = sym more ∙ first_ones ∙ ap (λ (v : ℕ). take v work) size ∙ take_more work n no_work (omega arith) in
    let both = same_from_push rest' (take n work) w (get_or work n no_work) cut in
    let here : w ≡ get_or work i no_work = both.1 ∙ ap (λ (v : ℕ). get_or work v no_work) (sym place) in
    let arrived : w.arrived ≡ arrived_at work i = ap (λ (v : SlotWork). v.arrived) here in
    let due_is : need ≡ max (due_at work i) low = needed ∙ ap (λ (v : SlotWork). max v.due low) here in
    let on : length rest ≡ i + 1 = omega arith in
    let need_is : need ≡ max (due_at work i) (low_for top (drop (i + 1) work)) = due_is ∙ ap (max (due_at work i)) (low_is ∙ ap (λ (v : ℕ). low_for top (drop v work)) on) in
    let room = slot_room top work i (omega arith) up in
    let near : need ≤ arrived_at work i = subst (λ (v : ℕ). v ≤ arrived_at work i) (sym need_is) room.enough in
    let under : need - top ≤ reach_at top work 0 i = subst (λ (v : ℕ). v - top ≤ reach_at top work 0 i) (sym need_is) room.ordered in
    let high = reached i (omega arith) in
    record {
      first_ones = both.0;
      size = sym place;
      on = on;
      within = within;
      arrived = arrived;
      needed = due_is;
      lowered = lowered;
      high_is = high;
      ordered = omega arith;
      arrived_in = omega (arith, most_at work i);
      high_in = omega (arith, reach_most top work 0 i);
      enough = omega arith;
      wide = add-mul i 1 width ∙ ap (λ (v : ℕ). i * width + v) (one-mul width);
      last = mul-le-mul_right width (omega arith);
    }

pub row_size : (bytes : List ℕ) (a b width : ℕ) → b ≡ a + width → b ≤ length bytes → length (take (b - a) (drop a bytes)) ≡ width
row_size bytes a b width e h = simp (length-take, length-drop) (omega arith)

-- with every slot done, the row of the first slot has the least from work done 0
pub filled_first : {M : Type 0} (q : Kind M) (y : Pump) (top first : ℕ) (work : List SlotWork) (width : ℕ) (next : List M) (bytes : List ℕ) (low l : ℕ) (x : M) → l ≤ 0 → keeps_up top work 0 ≡ true → 0 < length next → x ≡ get_or next 0 x → Filled q y top first work width next bytes low l → (s : ℕ) × (least q (decisions y) (length work) first 0 ≡ best s x)
filled_first {M} q y top first work width next bytes low l x h up some read inv =
    let end : l ≡ 0 = omega arith in
    let at : Filled q y top first work width next bytes low 0 = subst (λ (v : ℕ). Filled q y top first work width next bytes low v) end inv in
    let found = at.row 0 (omega (arith, at.low_is, low_under top work 0 up)) (omega arith) in
    let here : first + 0 ≡ first = omega arith in
    (found.0, ap (λ (v : ℕ). least q (decisions y) (length work) v 0) (sym here) ∙ found.1 ∙ ap (best found.0) (sym (get_or_read next 0 x some read q.nought)))
