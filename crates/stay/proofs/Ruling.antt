-- The rules that refuse a call, by what is told of each.
use Rattle.std.proofs.Common.{◌≡◌, ℕ, ◌+◌, Bool, true, false, not, ◌||◌, eqb, ltb, leb, List, length, Some, None, Ok, Err, Option, Result, is_some, sym, refl, ap, ◌∙◌}
use Rattle.std.specs.Option.{ok_or}
use Rattle.recursion.specs.Speeds.{lawful_speeds}
use Rattle.ledger.specs.declared.job.Job.{Job}
use Rattle.ledger.specs.declared.refusal.Refusal.{Refusal}
use Rattle.ledger.specs.declared.refusal.Refusal.TheVariants.{SlotCount, SpeedList, JobNumber, JobSlots, JobWork, NumberOpen, NoRoom, Nested, NotInTime, NoSuchJob, StayOver, NotPlanned}
use Rattle.ledger.specs.Limits.{most_slots, most_jobs, most_work, largest_number}
use Rattle.ledger.specs.Queue.{enter, work}
use Rattle.ledger.specs.Ledger.{Ledger, opening, booking, withdrawing, running, can_be_in_time, is_open, nested, is_planned, rule, booking_rules, refusal, with_queue, accepted, unless_refused}
use Rattle.stay.specs.BookingRules.{job_rules, queue_rules}

-- ## A result that goes by the rules o

pub told_which : {X : Type 0} (o : Option Refusal) (r : Refusal) (x : X) → Err r ≡ unless_refused o Err (Ok x) → o ≡ Some r
told_which None r x e = absurd cc
told_which (Some s) r x e = cc

pub told_none : {X : Type 0} (o : Option Refusal) (y x : X) → Ok y ≡ unless_refused o Err (Ok x) → (y ≡ x) × (o ≡ None)
told_none None y x e = (cc, refl)
told_none (Some s) y x e = absurd cc

-- the same where a value or the refusal e was asked
pub rule_told : {X : Type 0} (o : Option X) (e r : Refusal) → Err r ≡ ok_or o e → rule e (not (is_some o)) None ≡ Some r
rule_told None e r h = cc
rule_told (Some x) e r h = absurd cc

-- ## One rule or two; a and b are what their tests came to

pub opening_rules : (l : Ledger) (n : ℕ) (ss : List ℕ) (a b : Bool) → a ≡ (eqb n 0 || ltb most_slots n) → b ≡ lawful_speeds ss → refusal l (opening n ss) ≡ rule SlotCount a (rule SpeedList (not b) None)
opening_rules l n ss a b e f = cc

pub withdrawing_rule : (l : Ledger) (n : ℕ) (a : Bool) → a ≡ is_open n l.queue → refusal l (withdrawing n) ≡ rule NoSuchJob (not a) None
withdrawing_rule l n a e = cc

pub running_rules : (l : Ledger) (a b : Bool) → a ≡ leb l.slots l.clock → b ≡ is_planned l.standing → refusal l running ≡ rule StayOver a (rule NotPlanned (not b) None)
running_rules l a b e f = cc

-- ## Bookings

-- three rules and then the rest: the three alone, and the rest where none of them holds
three_first : (r s t : Refusal) (a b c : Bool) (rest : Option Refusal) → rule r a (rule s b (rule t c rest)) ≡ unless_refused (rule r a (rule s b (rule t c None))) Some rest
three_first r s t true b c rest = refl
three_first r s t false true c rest = refl
three_first r s t false false true rest = refl
three_first r s t false false false rest = refl

job_first : (k n : ℕ) (j : Job) (rest : Option Refusal) → job_rules k n j rest ≡ unless_refused (job_rules k n j None) Some rest
job_first k n j rest =
    three_first JobNumber JobSlots JobWork (eqb j.number 0 || ltb largest_number j.number) (ltb j.release k || (leb j.due j.release || ltb n j.due)) (eqb j.left 0 || ltb most_work j.left) rest

queue_first : (k : ℕ) (q : List Job) (j : Job) (rest : Option Refusal) → queue_rules k q j rest ≡ unless_refused (queue_rules k q j None) Some rest
queue_first k q j rest = three_first NumberOpen NoRoom Nested (is_open j.number q) (leb most_jobs (length q) || ltb most_work (work q + j.left)) (nested k j q) rest

-- a job j is asked for: what its own numbers are told, then what the job i that they make is told of the queue

abbrev pub JobTold : Ledger → Job → Result Job Refusal → Type 0
JobTold l j r = r ≡ unless_refused (job_rules l.clock l.slots j None) Err (Ok j)

abbrev pub QueueTold : Ledger → Job → Result (Unit {0}) Refusal → Type 0
QueueTold l i r = r ≡ unless_refused (queue_rules l.clock l.queue i None) Err (Ok tt)

-- the rules of a booking go on with those of the queue
queue_next : (l : Ledger) (j i : Job) (rest : Option Refusal) → JobTold l j (Ok i) → booking_rules l j rest ≡ unless_refused (queue_rules l.clock l.queue i None) Some rest
queue_next l j i rest e =
    let t = told_none (job_rules l.clock l.slots j None) i j e in
    job_first l.clock l.slots j (queue_rules l.clock l.queue j rest)
    ∙ ap (λ (o : Option Refusal). unless_refused o Some (queue_rules l.clock l.queue j rest)) t.1
    ∙ queue_first l.clock l.queue j rest
    ∙ ap (λ (x : Job). unless_refused (queue_rules l.clock l.queue x None) Some rest) (sym t.0)

-- the last rule of a booking
abbrev last : Ledger → Job → Option Refusal
last l j = rule NotInTime (not (can_be_in_time l (enter j l.queue))) None

pub job_refused : (l : Ledger) (j : Job) (r : Refusal) → JobTold l j (Err r) → refusal l (booking j) ≡ Some r
job_refused l j r e =
    let rest = queue_rules l.clock l.queue j (last l j) in
    job_first l.clock l.slots j rest ∙ ap (λ (o : Option Refusal). unless_refused o Some rest) (told_which (job_rules l.clock l.slots j None) r j e)

pub queue_refused : (l : Ledger) (j i : Job) (r : Refusal) → JobTold l j (Ok i) → QueueTold l i (Err r) → refusal l (booking j) ≡ Some r
queue_refused l j i r e f =
    queue_next l j i (last l j) e ∙ ap (λ (o : Option Refusal). unless_refused o Some (last l j)) (told_which (queue_rules l.clock l.queue i None) r tt f)

-- the job was told Ok twice, and entered; b tells whether the queue q with it can be in time

pub booking_step : (l : Ledger) (j i : Job) (q : List Job) → JobTold l j (Ok i) → q ≡ enter i l.queue → with_queue q l ≡ accepted l (booking j)
booking_step l j i q e is = ap (λ (v : List Job). with_queue v l) (is ∙ ap (λ (x : Job). enter x l.queue) (told_none (job_rules l.clock l.slots j None) i j e).0)

pub booking_rules_lem : (l : Ledger) (j i : Job) (q : List Job) (b : Bool) → JobTold l j (Ok i) → QueueTold l i (Ok tt) → q ≡ enter i l.queue → b ≡ can_be_in_time l q → refusal l (booking j) ≡ rule NotInTime (not b) None
booking_rules_lem l j i q b e f is t =
    queue_next l j i (last l j) e
    ∙ ap (λ (o : Option Refusal). unless_refused o Some (last l j)) (told_none (queue_rules l.clock l.queue i None) tt tt f).1
    ∙ ap (λ (m : Ledger). rule NotInTime (not (can_be_in_time l m.queue)) None) (sym (booking_step l j i q e is))
    ∙ ap (λ (v : Bool). rule NotInTime (not v) None) (sym t)
