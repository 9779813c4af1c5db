use Rattle.std.proofs.Common.{◌+◌, ◌-◌, ◌∙◌, ltb, cond, ℕ, arith, rules}
use Rattle.std.proofs.lemmas.Bool.{cond-true, lt-ltb}
use Rattle.recursion.specs.declared.work.SlotWork.{SlotWork}
use Rattle.ledger.specs.Queue.{arrived, owed}
use Rattle.stay.specs.Jobs.{queue_of}
use Rattle.stay.proofs.Ahead.{all_ahead, called_each}
use Rattle.stay.proofs.planning.Table+Job.work_ahead.Goals as goal

pub returns : goal.returns
returns c =
    let q = queue_of c.args.self.now in
    let a = c.args.ahead in
    let n = a.slots - a.clock in
    let made = c.from_fn.ensures.items in
    let there : ℕ → SlotWork = λ i. record { due = owed q (a.clock + i + 1); arrived = arrived q (a.clock + i) } in
    let none : SlotWork = record { due = 0; arrived = 0 } in
    all_ahead q a.clock n 96 c.from_fn.result (omega arith) made.long
    (λ i d l. called_each (λ i. cond (ltb i n) (there i) none) (λ i y p k. search rules) made i d (omega arith) ∙ cond-true (ltb i n) (there i) none (lt-ltb i n l))
