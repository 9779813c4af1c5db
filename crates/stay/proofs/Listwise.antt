-- Lists of calls made on a stay.
use Rattle.std.proofs.Common.{[], ◌∷◌}
use Rattle.ledger.proofs.Promised.{upheld}
use Rattle.stay.specs.declared.stay.Stay.{Stay}
use Rattle.stay.specs.Contents.{contents}
use Rattle.stay.specs.Histories.{calls_of, stay_after, EveryListOfCalls}
use Rattle.ledger.specs.Promise.{Upheld}
use Rattle.stay.proofs.Steps.{sound_holds, on_ledger}

stay_upheld : (s : Stay) → Upheld (contents s)
stay_upheld s = upheld (contents s) (sound_holds (contents s) s.sound)

pub keeps_promise : EveryListOfCalls
keeps_promise first new [] made = record { same = new; each = tt; upheld = stay_upheld first }
keeps_promise first new (d ∷ ds) made =
    let w = keeps_promise first new ds made.2 in
    let p = on_ledger (contents (stay_after first ds)) (contents d.stay) d.call d.answer made.0 made.1 (calls_of ds) w.same in
    record { same = p.same; each = (p, w.each); upheld = stay_upheld d.stay }
