-- What the rules of a booking let pass.
use Rattle.std.proofs.Common.{◌≡◌, ℕ, ◌+◌, ◌<◌, ◌≤◌, Bool, true, false, not, ◌||◌, eqb, ltb, leb, List, [], ◌∷◌, length, Some, None, Option, sym, arith}
use Rattle.std.proofs.lemmas.Bool.Decides.{nat_tests}
use Rattle.std.proofs.lemmas.Bool.{leb-false, ltb-false, eqb-false, or_parts}
use Rattle.ledger.specs.declared.job.Job.{Job}
use Rattle.ledger.specs.declared.refusal.Refusal.{Refusal}
use Rattle.ledger.specs.declared.refusal.Refusal.TheVariants.{JobNumber, JobSlots, JobWork, NumberOpen, NoRoom, Nested, NotInTime}
use Rattle.ledger.specs.Refusals.{refusal_number}
use Rattle.ledger.specs.Limits.{most_jobs, most_work, largest_number}
use Rattle.ledger.specs.Queue.{Each, Apart, enter, work}
use Rattle.ledger.specs.Ledger.{Ledger, booking, can_be_in_time, is_open, nested, rule, booking_rules, refusal}
use Rattle.ledger.specs.Sound.{Fair}

-- where the first of some rules is not this one, this one does not hold
rule_past : (r : Refusal) (b : Bool) (rest m : Option Refusal) → (Some r ≡ m → ⊥) → rule r b rest ≡ m → (b ≡ false) × (rest ≡ m)
rule_past r b rest m d h = grind arith

pub rule_none : (r : Refusal) (b : Bool) (rest : Option Refusal) → rule r b rest ≡ None → (b ≡ false) × (rest ≡ None)
rule_none r b rest h = rule_past r b rest None (λ e. cc) h

-- a last rule that refuses unless b
pub rule_off : (r : Refusal) (b : Bool) → rule r (not b) None ≡ None → b ≡ true
rule_off r b h = grind arith

rule_on : (r : Refusal) (b : Bool) → rule r (not b) None ≡ Some r → b ≡ false
rule_on r b h = grind arith

-- a booking that the rules before the last let pass
pub record Passed (l : Ledger) (j : Job) : Type 0 where
  pub number : (eqb j.number 0 || ltb largest_number j.number) ≡ false
  pub slots : (ltb j.release l.clock || (leb j.due j.release || ltb l.slots j.due)) ≡ false
  pub left : (eqb j.left 0 || ltb most_work j.left) ≡ false
  pub closed : is_open j.number l.queue ≡ false
  pub room : (leb most_jobs (length l.queue) || ltb most_work (work l.queue + j.left)) ≡ false
  pub apart : nested l.clock j l.queue ≡ false

-- where the first rule that holds is none of those before the last
passes : (l : Ledger) (j : Job) (rest m : Option Refusal) → ((r : Refusal) → refusal_number r ≤ 8 → Some r ≡ m → ⊥) → booking_rules l j rest ≡ m → Passed l j × (rest ≡ m)
passes l j rest m late h = assumption (none_before _ _ _ _ _ _ h)
  where
    none_before : (a b c d e f : Bool) → rule JobNumber a (rule JobSlots b (rule JobWork c (rule NumberOpen d (rule NoRoom e (rule Nested f rest))))) ≡ m →
        (a ≡ false) × (b ≡ false) × (c ≡ false) × (d ≡ false) × (e ≡ false) × (f ≡ false) × (rest ≡ m)
    none_before a b c d e f h = grind (arith, late JobNumber (omega arith), late JobSlots (omega arith), late JobWork (omega arith), late NumberOpen (omega arith), late NoRoom (omega arith), late Nested (omega arith))

pub passed_none : (l : Ledger) (j : Job) → booking_rules l j None ≡ None → Passed l j
passed_none l j h = (passes l j None None (λ r _ e. cc) h).0

pub taken : (l : Ledger) (j : Job) → refusal l (booking j) ≡ None → Passed l j × (can_be_in_time l (enter j l.queue) ≡ true)
taken l j h = let a = passes l j _ None (λ r _ e. cc) h in (a.0, rule_off NotInTime _ a.1)

pub not_in_time : (l : Ledger) (j : Job) → refusal l (booking j) ≡ Some NotInTime → Passed l j × (can_be_in_time l (enter j l.queue) ≡ false)
not_in_time l j h = let a = passes l j _ (Some NotInTime) (λ r n e. grind arith) h in (a.0, rule_on NotInTime _ a.1)

-- where they pass, what follows decides
passed_rest : (l : Ledger) (j : Job) (rest : Option Refusal) → Passed l j → booking_rules l j rest ≡ rest
passed_rest l j rest p = rw (p.number, p.slots, p.left, p.closed, p.room, p.apart)

-- so the verdict is that of the last rule
pub verdict_is : (l : Ledger) (j : Job) → Passed l j → refusal l (booking j) ≡ rule NotInTime (not (can_be_in_time l (enter j l.queue))) None
verdict_is l j p = passed_rest l j _ p

-- ## What has passed

pub closed_apart : (n : ℕ) (q : List Job) → is_open n q ≡ false → Each (λ i. (n ≡ i.number → ⊥) × (i.number ≡ n → ⊥)) q
closed_apart n [] h = tt
closed_apart n (i ∷ q) h = let p = or_parts _ _ h in let d = eqb-false i.number n p.0 in (((λ e. d (sym e)), d), closed_apart n q p.1)

pub unnested_apart : (c : ℕ) (j : Job) (q : List Job) → nested c j q ≡ false → Each (λ i. Apart c i j × Apart c j i) q
unnested_apart c j [] h = tt
unnested_apart c j (i ∷ q) h = let p = or_parts _ _ h in let r = or_parts _ _ p.1 in (((p.0, r.0), (r.0, p.0)), unnested_apart c j q r.1)

pub passed_fair : (l : Ledger) (j : Job) → Passed l j → Fair l.clock l.slots j
passed_fair l j p = fair_by l.clock l.slots j p.number p.slots p.left
  where
    fair_by : (clock slots : ℕ) (j : Job) → (eqb j.number 0 || ltb largest_number j.number) ≡ false → (ltb j.release clock || (leb j.due j.release || ltb slots j.due)) ≡ false →
        (eqb j.left 0 || ltb most_work j.left) ≡ false → Fair clock slots j
    fair_by clock slots j a b c = grind (arith, nat_tests)

-- and there is room for it
pub passed_room : (l : Ledger) (j : Job) → Passed l j → (length l.queue < most_jobs) × (work l.queue + j.left ≤ most_work)
passed_room l j p = let s = or_parts _ _ p.room in (leb-false _ _ s.0, ltb-false _ _ s.1)
