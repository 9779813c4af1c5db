use Rattle.std.proofs.Common.{eqb, sym, ◌∙◌, rules}
use borrow.Author.Tests.{tests}
use Rattle.std.proofs.lemmas.Iterator.{YieldsList-from_slice}
use Rattle.std.proofs.lemmas.Iterator.Search.{position_from_yields_List}
use Rattle.columns.specs.Lines.{newline}
use Rattle.columns.proofs.Found.{found_or_length}
use Rattle.columns.proofs.LineFacts.{length_first}
use Rattle.columns.proofs.lines.reading.line_length.Goals as goal

pub returns : goal.returns
returns c =
    let s = c.args.bytes.now in
    let found = position_from_yields_List (λ b. eqb b newline) _ _ c.position.result c.position.ensures.ran (YieldsList-from_slice _ c.iter.ensures.rest) (λ x b q k. search (rules, tests)) in
    c.unwrap_or.ensures ∙ (found_or_length (λ b. eqb b newline) s c.position.result found ∙ sym (length_first s))
