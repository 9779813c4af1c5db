use Rattle.std.proofs.Common.{◌≡◌, ◌+◌, length, ◌∙◌, arith, rules, ℕ, zero, suc, ◌<◌, List, [], ◌∷◌, get_or, subst}
use Rattle.std.proofs.lemmas.List.{get_or_append_left, length-take}
use Rattle.std.specs.List.{FoldsTo}
use Rattle.recursion.proofs.planning.last_row.Goals as goal

-- what calls wrote that answer the same each time
each_filled : {F M : Type 0} (R : F → M → F → Type 0) (f : F) (xs : List M) (g : F) → FoldsTo R f xs g → (d x : M) → ((y : M) (g : F) → R f y g → (y ≡ x) × (g ≡ f)) → (e : ℕ) → e < length xs → get_or xs e d ≡ x
each_filled R f [] g h d x same e l = absurd (omega arith)
each_filled R f (y ∷ ys) g h d x same zero l = (same y h.0 h.1).0
each_filled {F} R f (y ∷ ys) g h d x same (suc e) l = each_filled R f ys g (subst (λ (j : F). FoldsTo R j ys g) (same y h.0 h.1).1 h.2) d x same e (omega arith)

pub returns : goal.returns
returns g c e h =
    let size : length c.fill_with.new.self ≡ c.args.high + 1 = omega (arith, c.fill_with.ensures.len, length-take (c.args.high + 1) c.args.row.now) in
    get_or_append_left c.fill_with.new.self _ _ e (omega arith)
    ∙ each_filled _ _ _ _ c.fill_with.ensures.ran.1 g.M.Measure.kind.nought c.nought-nought.result (λ x f' k. search rules) e (omega arith)
    ∙ c.nought-nought.ensures
