-- What each front of a queue loses says what a slot makes of it.
use Rattle.std.proofs.Common.{◌≡◌, ℕ, ◌+◌, ◌-◌, min, List, [], ◌∷◌, ◌++◌, get_or, sym, refl, ap, ◌∙◌, inl, inr, ⊎_elim, arith}
use Rattle.std.proofs.lemmas.Bool.{eq-eqb, ne_eqb}
use Rattle.ledger.specs.declared.job.Job.{Job}
use Rattle.ledger.specs.Stays.{job}
use Rattle.ledger.specs.Queue.{Gone, arrived, work, lower, share, keep_open, pump_slot}
use Rattle.ledger.specs.Served.{StillOpen, FirstServed, FirstServedPins, RunsServeFirst, ServesFirst, pumped_from_back}
use Rattle.ledger.proofs.Slots.{first_served}

-- ## Gone

still_gone : (n : ℕ) (q r : List Job) → Gone n q → StillOpen q r → Gone n r
still_gone n [] r g e = rw e tt
still_gone n (j ∷ q) r (a, g) (inl s) = still_gone n q r g s
still_gone n (j ∷ q) r (a, g) (inr (m, rest, some, most, e, s)) = rw e (a, still_gone n q rest g s)

gone_both : (n : ℕ) (p q : List Job) → Gone n p → Gone n q → Gone n (p ++ q)
gone_both n [] q g h = h
gone_both n (j ∷ p) q (a, g) h = (a, gone_both n p q g h)

gone_parts : (n : ℕ) (p q : List Job) → Gone n (p ++ q) → Gone n p × Gone n q
gone_parts n [] q g = (tt, g)
gone_parts n (j ∷ p) q (a, g) = let r = gone_parts n p q g in ((a, r.0), r.1)

-- ## The first job

abbrev leaving : ℕ → Job → Job
leaving n j = record { number = j.number; release = j.release; due = j.due; left = n }

-- what the first job gets is what a front of it alone loses
share_is : (k s : ℕ) (j : Job) → share k s j ≡ min s (arrived (j ∷ []) k)
share_is k s j = grind arith

first_left : (k s : ℕ) (j : Job) (r : List Job) → StillOpen (j ∷ []) r → work (j ∷ []) ≡ work r + min s (arrived (j ∷ []) k) → r ≡ keep_open (lower (share k s j) j) []
first_left k s j r (inl e) falls =
    let z : j.left - share k s j ≡ 0 = omega (arith, share_is k s j, ap work e) in
    rw (eq-eqb (j.left - share k s j) 0 z) e
first_left k s j r (inr (n, rest, some, most, e, is)) falls =
    let m : n ≡ j.left - share k s j = omega (arith, share_is k s j, ap work e, ap work is) in
    rw (ne_eqb (j.left - share k s j) 0 (λ z. omega arith)) (cc)

keep_append : (j : Job) (q : List Job) → keep_open j [] ++ q ≡ keep_open j q
keep_append j q = grind arith

-- ## The jobs behind it

-- f is left of the first job and `of` of the front behind it
falls_behind : (k s : ℕ) (j : Job) (front : List Job) (of f : ℕ) → work (j ∷ []) ≡ f + min s (arrived (j ∷ []) k) → work (j ∷ front) ≡ f + of + min s (arrived (j ∷ front) k) → work front ≡ of + min (s - share k s j) (arrived front k)
falls_behind k s j front of f e h = grind arith

module _ (k s : ℕ) (j : Job) (q front back r : List Job) (apart : Gone j.number q) (parts : q ≡ front ++ back) (w : FirstServed k s (j ∷ []) q r) (v : FirstServed k s (j ∷ front) back r) where
  -- if the first job went, none of its number is left at all
  whole_gone : StillOpen front v.of_front → Gone j.number r
  whole_gone stays =
      let g = gone_parts j.number front back (rw parts at apart) in
      rw v.is (gone_both j.number v.of_front v.of_back (still_gone j.number front v.of_front g.0 stays) (still_gone j.number back v.of_back g.1 v.back_open))

  both_served : StillOpen (j ∷ []) w.of_front → StillOpen (j ∷ front) v.of_front → FirstServed k (s - share k s j) front back w.of_back
  both_served (inl e) (inl stays) = record {
    of_front = v.of_front;
    of_back = v.of_back;
    is = sym (rw e at w.is) ∙ v.is;
    front_open = stays;
    back_open = v.back_open;
    falls = falls_behind k s j front (work v.of_front) 0 (omega (arith, w.falls, ap work e)) (omega (arith, v.falls));
  }
  both_served (inl e) (inr (m, rest, some, most, is, stays)) =
      absurd ((rw (sym (rw e at w.is) ∙ rw is at v.is) at (still_gone j.number q w.of_back apart w.back_open)).0 refl)
  both_served (inr (n, none, a, b, e, c)) (inl stays) = absurd ((rw (rw e at w.is) at (whole_gone stays)).0 refl)
  both_served (inr (n, none, a, b, e, c)) (inr (m, rest, some, most, is, stays)) =
      let one : r ≡ leaving n j ∷ w.of_back = rw c at (rw e at w.is) in
      let two : r ≡ leaving m j ∷ (rest ++ v.of_back) = rw is at v.is in
      let same : leaving n j ≡ leaving m j = cc in
      let heads : n ≡ m = ap (λ (i : Job). i.left) same in
      record {
        of_front = rest;
        of_back = v.of_back;
        is = cc;
        front_open = stays;
        back_open = v.back_open;
        falls = falls_behind k s j front (work rest) n (omega (arith, w.falls, ap work e, ap work c)) (omega (arith, v.falls, ap work is));
      }

-- ## The queue

pub first_served_pins : FirstServedPins
first_served_pins k s [] r d f =
    let w = f [] [] refl in
    cc (w.is, w.front_open, w.back_open)
first_served_pins k s (j ∷ q) r (g, d) f =
    let w = f (j ∷ []) q refl in
    let u = share k s j in
    let rest = first_served_pins k (s - u) q w.of_back d
    (λ front back e. let v = f (j ∷ front) back (ap (λ (p : List Job). j ∷ p) e) in both_served k s j q front back r g e w v w.front_open v.front_open) in
    cc (w.is, first_left k s j w.of_front w.front_open w.falls, rest, keep_append (lower u j) (pump_slot k (s - u) q))

-- ## Ways to pump

-- jobs 1 and 2, of 2 and 3 units, in slot 0 at speed 3: from the back job 2 is done, and job 1 stands as it was
pub from_the_back : ServesFirst pumped_from_back → ⊥
from_the_back f =
    let w = f 0 3 (job 1 0 2 2 ∷ []) (job 2 0 4 3 ∷ []) in
    let first = λ (q : List Job). (get_or q 0 (job 0 0 0 0)).number in
    ⊎_elim
    (λ (e : w.of_front ≡ []).
    let is : job 1 0 2 2 ∷ [] ≡ w.of_back = rw e at w.is in
    ⊎_elim (λ b. let n : 1 ≡ 0 = ap first (is ∙ b) in omega arith) (λ b. let n : 1 ≡ 2 = ap first (is ∙ b.4) in omega arith) w.back_open)
    (λ a. omega (arith, w.falls, ap work a.4, a.2))
    w.front_open

pub in_queue_order : ServesFirst pump_slot
in_queue_order k s front back = first_served k s (front ++ back) front back refl

pub runs_serve_first : RunsServeFirst
runs_serve_first l m a run front back e = rw run.queue (first_served l.clock run.speed l.queue front back e)
