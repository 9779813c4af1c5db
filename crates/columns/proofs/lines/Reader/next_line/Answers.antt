use Rattle.std.proofs.Common.{refl, arith, rules}
use Rattle.std.proofs.lemmas.List.{take_rest}
use Rattle.columns.proofs.LineFacts.{first_within, read_one, read_within}
use Rattle.columns.proofs.lines.Reader.next_line.Goals as goal

pub overflow_add-self : goal.overflow_add-self
overflow_add-self c = omega (arith, read_within _ _ _ c.line_length-width.ensures c.args.self.now.inside)

pub overflow_add-self-2 : goal.overflow_add-self-2
overflow_add-self-2 c = omega (arith, read_within _ _ _ c.line_length-width.ensures c.args.self.now.inside)

pub invariant_of-self : goal.invariant_of-self
invariant_of-self c =
    let was = c.args.self.now in
    let one = read_one _ _ _ c.line_length-width.ensures _ _ _ c.is_empty.ensures c.if-is_empty.false was.counted was.ordered c.min-self.ensures in
    record { inside = one.inside; counted = one.counted; ordered = one.ordered }

pub slice_bounds-line-end : goal.slice_bounds-line-end
slice_bounds-line-end c = search (rules, first_within, take_rest)

pub returns-clause-left : goal.returns-clause-left
returns-clause-left c =
    let was = c.args.self.now in
    (read_one _ _ _ c.line_length-width.ensures _ _ _ c.is_empty.ensures c.if-is_empty.false was.counted was.ordered c.min-self.ensures).left

pub returns-clause-numbered : goal.returns-clause-numbered
returns-clause-numbered c =
    let was = c.args.self.now in
    (refl, refl, (read_one _ _ _ c.line_length-width.ensures _ _ _ c.is_empty.ensures c.if-is_empty.false was.counted was.ordered c.min-self.ensures).numbered)
