-- Words: a call made on a stay, calls made one after another, as contracted.
use Rattle.std.specs.Prelude.{◌≡◌, List, [], ◌∷◌}
use Rattle.ledger.specs.Answers.{Answer, answer}
use Rattle.ledger.specs.Ledger.{Call, after, ledger}
use Rattle.ledger.specs.Promise.{Upheld}
use Rattle.stay.specs.declared.stay.Stay.{Stay}
use Rattle.stay.specs.Calls.{OnLedger}
use Rattle.stay.specs.Contents.{contents}

-- a call, what it was answered, and the stay after it; where it plans, the answer holds the charges of the plan, and the
-- contract of planning says that the measure is theirs
pub record Made : Type 0 where
  pub call : Call
  pub answer : Answer
  pub stay : Stay

-- lists of calls made have the latest first

abbrev pub calls_of : List Made → List Call
calls_of [] = []
calls_of (d ∷ ds) = d.call ∷ calls_of ds

-- the stay after some calls, where it was `first` before them
abbrev pub stay_after : Stay → List Made → Stay
stay_after first [] = first
stay_after first (d ∷ ds) = d.stay

-- each call was made on the stay that the one before it left, and went as its contract says: its step and its answer are
-- the ledger's, which are the fields `step` and `answered` of `Follows`
abbrev pub AsContracted : Stay → List Made → Type 0
AsContracted first [] = Unit {0}
AsContracted first (d ∷ ds) =
    (contents d.stay ≡ after (contents (stay_after first ds)) d.call)
    × (d.answer ≡ answer (contents (stay_after first ds)) d.call)
    × AsContracted first ds

-- each of them left the stay as the ledger is after the same calls, was answered as the ledger, and kept the promise
abbrev pub EachOnLedger : List Made → Type 0
EachOnLedger [] = Unit {0}
EachOnLedger (d ∷ ds) = OnLedger (calls_of ds) d.call (contents d.stay) d.answer × EachOnLedger ds

pub record KeepsPromise (first : Stay) (ds : List Made) : Type 0 where
  -- the stay holds what the ledger is after the same calls
  pub same : contents (stay_after first ds) ≡ ledger (calls_of ds)
  pub each : EachOnLedger ds
  pub upheld : Upheld (contents (stay_after first ds))

-- from a new stay, any list of calls that go as contracted keeps stay and ledger the same and the promise true
abbrev pub EveryListOfCalls : Type 0
EveryListOfCalls = (first : Stay) → contents first ≡ ledger [] → (ds : List Made) → AsContracted first ds → KeepsPromise first ds
