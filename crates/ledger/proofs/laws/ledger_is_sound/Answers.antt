use Rattle.ledger.proofs.Kept.{ledger_sound}
use Rattle.ledger.proofs.Tested.{sound_is_tested}
use Rattle.ledger.proofs.laws.ledger_is_sound.Goals as goal

pub returns : goal.returns
returns c = record { always = ledger_sound; tested = sound_is_tested }
