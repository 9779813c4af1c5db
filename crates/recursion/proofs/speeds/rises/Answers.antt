use Rattle.std.proofs.Common.{ltb, rules}
use Rattle.std.proofs.lemmas.List.Sorted.{answers_always}
use Rattle.recursion.proofs.Rising.{rises_answer}
use Rattle.recursion.proofs.speeds.rises.Goals as goal

pub returns : goal.returns
returns c = rises_answer _ _ (c.is_sorted_by.ensures.cases ltb (answers_always _ _ _ (λ f a r g h. search rules)))
