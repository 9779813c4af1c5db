use Rattle.std.proofs.Common.{◌≡◌, sum, length, rules}
use Rattle.std.proofs.lemmas.Iterator.{YieldsList-from_slice}
use Rattle.columns.proofs.Fitting.{left_from_yields, less}
use Rattle.columns.proofs.fields.has_columns.Goals as goal

pub returns : goal.returns
returns c =
    let left : c.try_fold-left.result ≡ less (length c.args.bytes.now) (sum c.args.widths.now) = left_from_yields _ _ _ _ _ (λ a x o h q. search rules) _ _ c.args.widths.now (length c.args.bytes.now) c.try_fold-left.result c.try_fold-left.ensures.ran (YieldsList-from_slice _ c.iter.ensures.rest) in
    search (rules, left)
