use Rattle.std.proofs.Common.{◌≡◌, ℕ, ◌+◌, true, false, length, Some, None, refl, ap, ◌∙◌, arith, length-take-le, rules}
use Rattle.std.proofs.lemmas.Result.{err_from_is_err_and}
use Rattle.ledger.specs.declared.job.Job.{Job}
use Rattle.ledger.specs.declared.refusal.Refusal.TheVariants.{NotInTime}
use Rattle.ledger.specs.Answers.{booked}
use Rattle.ledger.specs.Ledger.{booking, refusal, with_queue, accepted}
use Rattle.ledger.proofs.Queues.{length_enter}
use Rattle.stay.specs.Contents.{contents}
use Rattle.stay.specs.Jobs.{queue_of}
use Rattle.stay.proofs.Ruling.{job_refused, queue_refused, booking_step, booking_rules_lem}
use Rattle.stay.proofs.Steps.{exact_verdict, refused_follows, accepted_sound, accepted_follows}
use Rattle.stay.proofs.stay.Stay.book.Goals as goal
use Rattle.stay.proofs.stay.Stay.book.Goals.{Else-not-has_room_for}

-- the job that is asked for
abbrev asked : ℕ → ℕ → ℕ → ℕ → Job
asked number release due work = record { number = number; release = release; due = due; left = work }

pub returns-in_err-job : goal.returns-in_err-job
returns-in_err-job c =
    let me = c.args.self.now in
    let j = asked c.args.number c.args.release c.args.due c.args.work in
    let r = c.in_err-job.field-0.0 in
    let p = err_from_is_err_and c.from_residual.result c.from_residual.ensures.1 in
    let no = job_refused (contents me) j r c.in_err-job.ensures in
    rw (p.1, p.2) record { follows = refused_follows (contents me) (booking j) r me.sound no; exact = exact_verdict (contents me) j (Some r) me.sound no; kept = refl }

pub returns-in_err-admits : goal.returns-in_err-admits
returns-in_err-admits c =
    let me = c.args.self.now in
    let j = asked c.args.number c.args.release c.args.due c.args.work in
    let r = c.in_err-admits.field-0.0 in
    let p = err_from_is_err_and c.from_residual-in_err-admits.result c.from_residual-in_err-admits.ensures.1 in
    let no = queue_refused (contents me) j c.in_ok-job.job r c.in_ok-job.ensures c.in_err-admits.ensures.told in
    rw (p.1, p.2) record { follows = refused_follows (contents me) (booking j) r me.sound no; exact = exact_verdict (contents me) j (Some r) me.sound no; kept = refl }

pub returns-then-not-has_room_for : goal.returns-then-not-has_room_for
returns-then-not-has_room_for c =
    let me = c.args.self.now in
    let j = asked c.args.number c.args.release c.args.due c.args.work in
    let no = booking_rules_lem (contents me) j c.in_ok-job.job (queue_of c.entered-table.result) false c.in_ok-job.ensures c.in_ok-admits.ensures.told c.entered-table.ensures.queue c.if-not-has_room_for.ensures in
    record { follows = refused_follows (contents me) (booking j) NotInTime me.sound no; exact = exact_verdict (contents me) j (Some NotInTime) me.sound no; kept = refl }

-- the call on the ledger
taken : (c : Else-not-has_room_for) →
    let l = contents c.args.self.now in
    let j = asked c.args.number c.args.release c.args.due c.args.work in
    (refusal l (booking j) ≡ None) × (with_queue (queue_of c.entered-table.result) l ≡ accepted l (booking j))
taken c =
    let l = contents c.args.self.now in
    let j = asked c.args.number c.args.release c.args.due c.args.work in
    let i = c.in_ok-job.job in
    let q = queue_of c.entered-table.result in
    let told = c.in_ok-job.ensures in
    let is = c.entered-table.ensures.queue in
    (booking_rules_lem l j i q true told c.in_ok-admits.ensures.told is c.if-not-has_room_for.ensures, booking_step l j i q told is)

pub take_jobs-requires : goal.take_jobs-requires
take_jobs-requires c =
    let me = c.args.self.now in
    let l = contents me in
    let j = asked c.args.number c.args.release c.args.due c.args.work in
    let t = taken (goal.at.take_jobs-requires c).Else-not-has_room_for in
    accepted_sound l (with_queue (queue_of c.entered-table.result) l) (booking j) me.sound t.0 t.1

pub returns : goal.returns
returns c =
    let me = c.args.self.now in
    let l = contents me in
    let j = asked c.args.number c.args.release c.args.due c.args.work in
    let t = taken (goal.at.returns c).Else-not-has_room_for in
    let table = c.entered-table.result in
    let n : length table.jobs ≡ 64 = search rules in
    let room = c.in_ok-admits.ensures.room in
    let all = length-take-le table.count table.jobs (omega arith) in
    let more = ap length c.entered-table.ensures.queue ∙ length_enter c.in_ok-job.job l.queue in
    let count : table.count ≡ length l.queue + 1 = omega arith in
    record {
      follows = accepted_follows l (contents c.take_jobs.new.self) (booking j) (booked table.count) me.sound t.0 (c.take_jobs.ensures ∙ t.1) (ap booked count);
      exact = exact_verdict l j None me.sound t.0;
      kept = tt;
    }
