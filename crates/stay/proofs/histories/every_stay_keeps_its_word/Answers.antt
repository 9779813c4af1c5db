use Rattle.ledger.proofs.Asked.{questions_lawful}
use Rattle.ledger.proofs.Promised.{upheld}
use Rattle.stay.specs.Contents.{contents}
use Rattle.stay.proofs.Steps.{sound_holds}
use Rattle.stay.proofs.histories.every_stay_keeps_its_word.Goals as goal

pub returns : goal.returns
returns c = record { upheld = λ s. upheld (contents s) (sound_holds (contents s) s.sound); questions = λ s. questions_lawful (contents s) (sound_holds (contents s) s.sound) }
