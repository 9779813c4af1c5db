use Rattle.std.proofs.Common.{◌≡◌, ◌-◌, length, take, sym, refl, ap, ◌∙◌, arith, rules}
use Rattle.stay.specs.Jobs.{queue_of}
use Rattle.stay.proofs.Striking.{strike_found, struck_array}
use Rattle.stay.proofs.jobs.Table+Job.struck.Goals as goal

pub returns : goal.returns
returns c =
    let t = c.args.self.now in
    let p = c.args.place in
    let n : length t.jobs ≡ 64 = search rules in
    let queue = ap (take (t.count - 1)) c.copy_within.ensures.after ∙ struck_array t.jobs p t.count (omega arith) (omega arith) in
    record { queue = queue; strikes = λ n at. queue ∙ sym (strike_found n (queue_of t) p at); count = refl }
