-- The work of the slots ahead, and what planning makes of it.
use Rattle.std.proofs.Common.{◌≡◌, ℕ, zero, suc, ◌+◌, ◌-◌, ◌*◌, ◌<◌, ◌≤◌, Bool, true, false, cond, not, ◌||◌, eqb, ltb, leb, List, [], ◌∷◌, length, get_or, take, None, Ok, Err, Result, MatchResult, IsErrAnd, sym, refl, ap, ◌∙◌, subst, ⊎_elim, arith, length-take-le, get_or-take}
use borrow.Rule.Slice.PartMut.{mid_of, put_mid, put_same}
use Rattle.std.specs.Array.{IsFromFnResultFrom, IsFromFnResult}
use Rattle.std.specs.Fn.{Mut, Called}
use Rattle.std.proofs.lemmas.List.{same_lists}
use Rattle.std.proofs.lemmas.Slice.{between-put_mid}
use Rattle.std.proofs.lemmas.Bool.{cond_both, cond-true, cond-false, le-ltb, eq-eqb, or_from, cases_Bool, cases_eq}
use Rattle.measure.specs.Kinds.{Kind, Laws, measure_of}
use Rattle.measure.specs.Orders.{order_of}
use Rattle.recursion.specs.declared.unplanned.Unplanned.{Unplanned}
use Rattle.recursion.specs.declared.unplanned.Unplanned.TheVariants.{Slots, Speeds, Memory}
use Rattle.recursion.specs.declared.work.SlotWork.{SlotWork}
use Rattle.recursion.specs.Planning.{slots_wrong, memory_short, least_or, plan_answer, places_after, KeptUnlessPlanned}
use Rattle.recursion.specs.Pumps.{Pump, decisions, SameSlots, SamePlan, planned_speeds}
use Rattle.recursion.specs.Speeds.{lawful_speeds}
use Rattle.recursion.specs.Staged.{least}
use Rattle.recursion.specs.Work.{most_arrived, pump_of}
use Rattle.recursion.proofs.Alike.{same_plan}
use Rattle.recursion.proofs.Answering.{answer_least}
use Rattle.recursion.proofs.Feeding.{Feeds, feeds_pump}
use Rattle.ledger.specs.declared.job.Job.{Job}
use Rattle.ledger.specs.declared.refusal.Refusal.{Refusal}
use Rattle.ledger.specs.declared.refusal.Refusal.TheVariants.{ShortMemory}
use Rattle.ledger.specs.Ledger.{Ledger, Charges, planning, slots_left, pump_for, plan_for, charges_of, rule, refusal, unless_refused}
use Rattle.ledger.specs.Queue.{arrived, owed, work}
use Rattle.ledger.specs.Sound.{Sound}
use Rattle.ledger.proofs.Arrivals.{open_work_arrives}
use Rattle.ledger.proofs.Promised.{measured_plan}
use Rattle.stay.specs.Calls.{Lent}
use Rattle.stay.specs.Works.{work_ahead, Placed}

-- ## Sums within the open work

pub owed_within : (q : List Job) (k : ℕ) → owed q k ≤ work q
owed_within [] k = omega arith
owed_within (j ∷ q) k =
    let r = owed_within q k in
    cond_both (leb j.due k) j.left 0 (λ (v : ℕ). v + owed q k ≤ j.left + work q) (λ _. omega arith) (λ _. omega arith)

pub arrived_within : (q : List Job) (k : ℕ) → arrived q k ≤ work q
arrived_within [] k = omega arith
arrived_within (j ∷ q) k =
    let r = arrived_within q k in
    cond_both (leb j.release k) j.left 0 (λ (v : ℕ). v + arrived q k ≤ j.left + work q) (λ _. omega arith) (λ _. omega arith)

-- ## The list of the slots ahead

pub length_ahead : (q : List Job) (k n : ℕ) → length (work_ahead q k n) ≡ n
length_ahead q k zero = refl
length_ahead q k (suc n) = ap suc (length_ahead q (suc k) n)

-- the slot at place i
slot_ahead : (q : List Job) (k n i : ℕ) (d : SlotWork) → i < n → get_or (work_ahead q k n) i d ≡ record { due = owed q (k + i + 1); arrived = arrived q (k + i) }
slot_ahead q k zero i d h = absurd (omega arith)
slot_ahead q k (suc n) zero d h =
    let a : suc k ≡ k + 0 + 1 = omega arith in
    let b : k ≡ k + 0 = omega arith in
    ap (λ (v : ℕ). record { due = owed q v; arrived = arrived q k }) a ∙ ap (λ (v : ℕ). record { due = owed q (k + 0 + 1); arrived = arrived q v }) b
slot_ahead q k (suc n) (suc i) d h =
    let e : suc k + i ≡ k + suc i = omega arith in
    slot_ahead q (suc k) n i d (omega arith) ∙ ap (λ (v : ℕ). record { due = owed q (v + 1); arrived = arrived q v }) e

-- the first n of m places, if each of them has the slot at that place
pub all_ahead : (q : List Job) (k n m : ℕ) (out : List SlotWork) → n ≤ m → length out ≡ m → ((i : ℕ) (d : SlotWork) → i < n → get_or out i d ≡ record { due = owed q (k + i + 1); arrived = arrived q (k + i) }) → take n out ≡ work_ahead q k n
all_ahead q k n m out le long at =
    let len = length-take-le n out (omega arith) in
    same_lists (take n out) (work_ahead q k n) (len ∙ sym (length_ahead q k n))
    (λ i d h. let l : i < n = omega arith in get_or-take n out i d l ∙ at i d l ∙ sym (slot_ahead q k n i d l))

-- calls of a closure at the numbers from i on, each of which leaves it as it was
module _ {F B : Type 0} {g : Mut F (ℕ × Unit {0}) B} {f : F} (h : ℕ → B) (called : (i : ℕ) (y : B) (p : F) → Called g f (i, tt) y p → (p ≡ f) × (y ≡ h i)) where
  called_from : (out : List B) (i n : ℕ) (p : F) → p ≡ f → IsFromFnResultFrom g p out i n → (k : ℕ) (d : B) → i ≤ k → k < i + n → get_or out k d ≡ h k
  called_from out i zero p e m k d a b = absurd (omega arith)
  called_from out i (suc n) p e m k d a b =
      let now = called i m.1 m.0 (subst (λ (v : F). Called g v (i, tt) m.1 m.0) e m.3) in
      ⊎_elim
      (λ (same : i ≡ k). subst (λ (v : ℕ). get_or out v d ≡ h v) same (m.2.1 d ∙ now.1))
      (λ other. called_from out (i + 1) n m.0 now.0 m.4 k d (omega arith) (omega arith))
      (cases_eq i k)

  pub called_each : {out : List B} {n : ℕ} → IsFromFnResult g f out n → (k : ℕ) (d : B) → k < n → get_or out k d ≡ h k
  called_each {out} {n} m k d l = called_from out 0 n f refl m.each k d (omega arith) (omega arith)

-- ## The pump that it describes

feeds_ahead : (speeds : List ℕ) (q : List Job) (t : ℕ → ℕ → ℕ) (k n : ℕ) → Feeds (pump_for speeds q t) k (work_ahead q k n)
feeds_ahead speeds q t k zero = tt
feeds_ahead speeds q t k (suc n) = (refl, refl, feeds_ahead speeds q t (suc k) n)

fed_alike : (y z : Pump) (k : ℕ) (ws : List SlotWork) → ((i s : ℕ) → y.charge i s ≡ z.charge i s) → Feeds y k ws → Feeds z k ws → SameSlots y z (length ws) k
fed_alike y z k [] same f g = tt
fed_alike y z k (w ∷ ws) same f g = (f.0 ∙ sym g.0, f.1 ∙ sym g.1, same k, fed_alike y z (suc k) ws same f.2 g.2)

same_slots : (speeds : List ℕ) (q : List Job) (t : ℕ → ℕ → ℕ) (k n : ℕ) → SameSlots (pump_of speeds k (work_ahead q k n) t) (pump_for speeds q t) n k
same_slots speeds q t k n =
    let ws = work_ahead q k n in
    let y = pump_of speeds k ws t in
    subst (λ (v : ℕ). SameSlots y (pump_for speeds q t) v k) (length_ahead q k n)
    (fed_alike y (pump_for speeds q t) k ws (λ i s. refl) (feeds_pump speeds k ws t) (feeds_ahead speeds q t k n))

-- ## The most that has arrived is the open work

most_under : (q : List Job) (k n : ℕ) → most_arrived (work_ahead q k n) ≤ work q
most_under q k zero = omega arith
most_under q k (suc n) = let a = arrived_within q k in let r = most_under q (suc k) n in omega arith

most_over : (q : List Job) (k n : ℕ) → arrived q (k + n) ≤ most_arrived (work_ahead q k (suc n))
most_over q k zero = let e : arrived q (k + 0) ≡ arrived q k = ap (arrived q) (let r : k + 0 ≡ k = omega arith in r) in omega arith
most_over q k (suc n) =
    let r = most_over q (suc k) n in
    let e : arrived q (k + suc n) ≡ arrived q (suc k + n) = ap (arrived q) (let r : k + suc n ≡ suc k + n = omega arith in r) in
    omega arith

most_some : (l : Ledger) (n : ℕ) → Sound l → slots_left l ≡ n → most_arrived (work_ahead l.queue l.clock n) ≡ work l.queue
most_some l zero w e =
    let end : l.clock ≡ l.slots = omega (arith, w.clock_within) in
    sym (ap work ((open_work_arrives l w).none_at_end end))
most_some l (suc n) w e =
    let under = most_under l.queue l.clock (suc n) in
    let over = most_over l.queue l.clock n in
    let last : arrived l.queue (l.clock + n) ≡ work l.queue =
    ap (arrived l.queue) (let r : l.clock + n ≡ l.slots - 1 = omega arith in r) ∙ (open_work_arrives l w).by_last_slot in
    omega arith

pub most_is_work : (l : Ledger) → Sound l → most_arrived (work_ahead l.queue l.clock (slots_left l)) ≡ work l.queue
most_is_work l w = most_some l (slots_left l) w refl

-- ## What planning answers

-- too little memory for the ledger is too little for the work ahead
pub same_memory : (l : Ledger) (bytes measures : ℕ) → Sound l →
    memory_short (work_ahead l.queue l.clock (slots_left l)) bytes measures
    ≡ (ltb bytes (slots_left l * (work l.queue + 1)) || ltb measures (2 * (work l.queue + 1)))
same_memory l bytes measures w =
    ap (λ (v : ℕ). ltb bytes (v * (most_arrived (work_ahead l.queue l.clock (slots_left l)) + 1)) || ltb measures (2 * (most_arrived (work_ahead l.queue l.clock (slots_left l)) + 1))) (length_ahead l.queue l.clock (slots_left l))
    ∙ ap (λ (v : ℕ). ltb bytes (slots_left l * (v + 1)) || ltb measures (2 * (v + 1))) (most_is_work l w)

places_right : (l : Ledger) → Sound l → slots_wrong l.clock (work_ahead l.queue l.clock (slots_left l)) (slots_left l) ≡ false
places_right l w =
    let n = length_ahead l.queue l.clock (slots_left l) in
    let c = w.clock_within in
    let s = w.slots_within in
    or_from (ltb 96 (l.clock + length (work_ahead l.queue l.clock (slots_left l)))) (not (eqb (slots_left l) (length (work_ahead l.queue l.clock (slots_left l)))))
    (le-ltb 96 _ (omega arith))
    (ap not (eq-eqb (slots_left l) (length (work_ahead l.queue l.clock (slots_left l))) (sym n)))

-- what is left of the reasons for no plan on a stay: its speeds are lawful, its slots within the 96 and some sequence is in
-- time, so any of them means short memory
abbrev pub or_short : {M : Type 0} → Result M Unplanned → Result M Refusal
or_short (Ok m) = Ok m
or_short (Err u) = Err ShortMemory

pub told_short : {M : Type 0} {Q : Unplanned → Refusal → Type 0} (r : Result M Unplanned) (s : Result M Refusal) → MatchResult r (λ m. s ≡ Ok m) (λ u. IsErrAnd s (Q u)) → ((u : Unplanned) (e : Refusal) → Q u e → e ≡ ShortMemory) → s ≡ or_short r
told_short (Ok m) s h short = h
told_short (Err u) (Ok m) h short = absurd h
told_short (Err u) (Err e) h short = ap Err (short u e h)

-- what planning leaves of lent memory, and of the places of the slots from a to e
pub lent_kept : {M X : Type 0} (r : Result M Unplanned) (was is : List X) → length is ≡ length was → KeptUnlessPlanned r was is → Lent (or_short r) was is
lent_kept (Ok m) was is n k = n
lent_kept (Err u) was is n k = k

pub placed : {M : Type 0} (r : Result M Unplanned) (a e : ℕ) (xs ys speeds : List ℕ) → a ≤ length xs → length ys ≡ e - a → ys ≡ places_after r speeds (mid_of a (e - a) xs) → Placed (or_short r) a e speeds xs (put_mid a (e - a) xs ys)
placed (Ok m) a e xs ys speeds h n is = between-put_mid a (e - a) xs ys e h n ∙ is
placed (Err u) a e xs ys speeds h n is = ap (put_mid a (e - a) xs) is ∙ put_same a (e - a) xs

module _ {M : Type 0} {q : Kind M} (laws : Laws q) (l : Ledger) (t : Charges) (w : Sound l) where
  -- the work ahead of the ledger, the plan, and the measure of its charges
  abbrev pub ahead : List SlotWork
  ahead = work_ahead l.queue l.clock (slots_left l)

  abbrev pub the_plan : List ℕ
  the_plan = plan_for l t (order_of laws)

  abbrev pub the_measure : M
  the_measure = measure_of q (charges_of l t the_plan)

  same_pump : SamePlan q (pump_of l.speeds l.clock ahead t.charge) (pump_for l.speeds l.queue t.charge) (slots_left l) l.clock 0
  same_pump =
      same_plan q (pump_of l.speeds l.clock ahead t.charge) (pump_for l.speeds l.queue t.charge) (slots_left l) l.clock 0 refl (same_slots l.speeds l.queue t.charge l.clock (slots_left l))

  -- the speeds that planning finds are the ledger's
  pub planned_ahead : (listed : List ℕ) (ws : List SlotWork) → listed ≡ l.speeds → ws ≡ ahead → planned_speeds q (pump_of listed l.clock ws t.charge) (length ws) l.clock 0 ≡ the_plan
  planned_ahead listed ws is are =
      ap (λ (v : List ℕ). planned_speeds q (pump_of v l.clock ws t.charge) (length ws) l.clock 0) is
      ∙ ap (λ (v : List SlotWork). planned_speeds q (pump_of l.speeds l.clock v t.charge) (length v) l.clock 0) are
      ∙ ap (λ (n : ℕ). planned_speeds q (pump_of l.speeds l.clock ahead t.charge) n l.clock 0) (length_ahead l.queue l.clock (slots_left l))
      ∙ same_pump.planned
      ∙ (measured_plan laws l t w).same_speeds

  module _ (bytes measures : ℕ) where
    ahead_answer : Result M Unplanned
    ahead_answer = plan_answer q (pump_of l.speeds l.clock ahead t.charge) l.clock ahead bytes measures (slots_left l)

    -- with memory enough, the measure of the plan's charges is answered
    enough_answer : memory_short ahead bytes measures ≡ false → ahead_answer ≡ Ok the_measure
    unfolding ahead_answer
    enough_answer enough =
        let y = pump_of l.speeds l.clock ahead t.charge in
        answer_least q y l.clock ahead bytes measures (slots_left l) (places_right l w) w.lawful enough
        ∙ ap (λ (n : ℕ). least_or (least q (decisions y) n l.clock 0)) (length_ahead l.queue l.clock (slots_left l))
        ∙ ap least_or same_pump.least
        ∙ ap least_or (measured_plan laws l t w).exists.1

    -- with too little, it is refused
    short_answer : memory_short ahead bytes measures ≡ true → ahead_answer ≡ Err Memory
    unfolding ahead_answer
    short_answer short =
        let y = pump_of l.speeds l.clock ahead t.charge in
        let z : Result M Unplanned = least_or (least q (decisions y) (length ahead) l.clock 0) in
        let m : Result M Unplanned = cond (memory_short ahead bytes measures) (Err Memory) z in
        cond-false (slots_wrong l.clock ahead (slots_left l)) (Err Slots) (cond (not (lawful_speeds l.speeds)) (Err Speeds) m) (places_right l w)
        ∙ cond-false (not (lawful_speeds l.speeds)) (Err Speeds) m (ap not w.lawful)
        ∙ cond-true (memory_short ahead bytes measures) (Err Memory) z short

    -- so a stay answers what the ledger does
    pub stay_answer : (mark : ℕ) (listed : List ℕ) (ws : List SlotWork) (places : ℕ) → listed ≡ l.speeds → ws ≡ ahead → places ≡ slots_left l →
        or_short (plan_answer q (pump_of listed l.clock ws t.charge) l.clock ws bytes measures places)
        ≡ unless_refused (refusal l (planning t (order_of laws) mark bytes measures)) Err (Ok the_measure)
    unfolding ahead_answer
    stay_answer mark listed ws places is are so =
        let told : plan_answer q (pump_of listed l.clock ws t.charge) l.clock ws bytes measures places ≡ ahead_answer =
        ap (λ (v : List ℕ). plan_answer q (pump_of v l.clock ws t.charge) l.clock ws bytes measures places) is
        ∙ ap (λ (v : List SlotWork). plan_answer q (pump_of l.speeds l.clock v t.charge) l.clock v bytes measures places) are
        ∙ ap (λ (n : ℕ). plan_answer q (pump_of l.speeds l.clock ahead t.charge) l.clock ahead bytes measures n) so in
        let by_rule : Bool → Result M Refusal = λ b. unless_refused (rule ShortMemory b None) Err (Ok the_measure) in
        ap or_short told
        ∙ ⊎_elim
        (λ short. ap or_short (short_answer short) ∙ sym (ap by_rule short))
        (λ enough. ap or_short (enough_answer enough) ∙ sym (ap by_rule enough))
        (cases_Bool (memory_short ahead bytes measures))
        ∙ ap by_rule (same_memory l bytes measures w)
