use Rattle.std.proofs.Common.{ℕ, eqb, not, drop, ap, ◌∙◌, rules, arith}
use borrow.Author.Tests.{tests}
use Rattle.std.proofs.lemmas.Iterator.{YieldsList-from_slice}
use Rattle.std.proofs.lemmas.Iterator.Search.{position_from_yields_List}
use Rattle.std.proofs.lemmas.List.Sums.{prefix_len-le-length}
use Rattle.columns.specs.Fields.{blank}
use Rattle.columns.proofs.FieldFacts.{blanks_end}
use Rattle.columns.proofs.Found.{found_or_length}
use Rattle.columns.proofs.fields.blanks.Goals as goal

pub returns : goal.returns
returns c =
    let s = c.args.bytes.now in
    let found = position_from_yields_List (λ b. not (eqb b blank)) _ _ c.position.result c.position.ensures.ran (YieldsList-from_slice _ c.iter.ensures.rest) (λ x b q k. search (rules, tests)) in
    let e = c.unwrap_or.ensures ∙ found_or_length (λ b. not (eqb b blank)) s c.position.result found in
    record { inside = omega (arith, e, prefix_len-le-length (λ b. not (not (eqb b blank))) s); behind = ap (λ (n : ℕ). drop n s) e ∙ blanks_end s }
