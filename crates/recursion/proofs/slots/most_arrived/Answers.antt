use Rattle.std.proofs.Common.{◌≡◌, ℕ, max, map, [], ◌∷◌, refl, arith, unwrap_or, List, sym, ap, ◌∙◌, rules}
use Rattle.std.specs.List.{reduce, fold}
use Rattle.std.proofs.lemmas.Iterator.{YieldsList-from_slice, YieldsList-from_map}
use Rattle.std.proofs.lemmas.Iterator.Consumers.{YieldsList-at, max_from_yields_List}
use Rattle.std.proofs.lemmas.Iterator.Adapters.{option_map_id}
use Rattle.recursion.specs.declared.work.SlotWork.{SlotWork}
use Rattle.recursion.specs.Work.{most_arrived}
use Rattle.recursion.proofs.slots.most_arrived.Goals as goal

largest : (m : ℕ) (ws : List SlotWork) → fold max m (map (λ w. w.arrived) ws) ≡ max m (most_arrived ws)
largest m [] = omega arith
largest m (w ∷ ws) = omega (arith, largest (max m w.arrived) ws)

most_reduced : (ws : List SlotWork) → unwrap_or (reduce max (map (λ w. w.arrived) ws)) 0 ≡ most_arrived ws
most_reduced [] = refl
most_reduced (w ∷ ws) = largest w.arrived ws

pub returns : goal.returns
returns c =
    let ws = c.args.work.now in
    c.unwrap_or.ensures
    ∙ ap (λ o. unwrap_or o 0) (sym (option_map_id _) ∙ max_from_yields_List c.map.result _ c.max.ensures.ran (YieldsList-from_map _ (λ w. w.arrived) (YieldsList-at c.map.ensures.source (YieldsList-from_slice ws cc)) c.map.ensures.closure (λ x r q k. search rules)))
    ∙ most_reduced ws
