-- The three laws that make the recursion find what is least. Lists of charges under an order keep them too.
use Rattle.std.proofs.Common.{◌≡◌, true, false}
use Rattle.measure.specs.Kinds.{Kind, Laws}
use Rattle.measure.specs.Orders.{Order, charge_lists}

pub record Ranked {M : Type 0} (q : Kind M) : Type 0 where
  pub total : (a b : M) → q.not_above a b ≡ false → q.not_above b a ≡ true
  pub transitive : (a b c : M) → q.not_above a b ≡ true → q.not_above b c ≡ true → q.not_above a c ≡ true
  pub monotone : (a b c : M) → q.not_above a b ≡ true → q.not_above (q.join c a) (q.join c b) ≡ true

pub ranked : {M : Type 0} {q : Kind M} → Laws q → Ranked q
ranked laws = record { total = laws.total; transitive = laws.transitive; monotone = laws.monotone }

pub ranked_order : (o : Order) → Ranked (charge_lists o.not_above)
ranked_order o = record { total = o.total; transitive = o.transitive; monotone = o.monotone }
