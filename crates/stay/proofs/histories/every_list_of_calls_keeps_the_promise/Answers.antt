use Rattle.stay.proofs.Listwise.{keeps_promise}
use Rattle.stay.proofs.histories.every_list_of_calls_keeps_the_promise.Goals as goal

pub returns : goal.returns
returns c = keeps_promise
