use Rattle.recursion.proofs.Rising.{lawful_exact}
use Rattle.recursion.proofs.laws.lawful_lists_are_tested_exactly.Goals as goal

pub returns : goal.returns
returns c = lawful_exact
