-- Words: order on lists of charges, the order that a measure puts on them.
-- Such an order names no type of measures, so a call that plans can be told as data.
use Rattle.std.specs.Prelude.{◌≡◌, ℕ, ◌≤◌, Bool, true, false, List, [], ◌∷◌, ◌++◌, nat_le}
use Rattle.std.proofs.Common.{sym, ap, subst, ◌∙◌}
use Rattle.tariff.specs.Charges.{largest_charge}
use Rattle.measure.specs.Kinds.{Kind, Laws, measure_of}

pub record Order : Type 0 where
  pub not_above : List ℕ → List ℕ → Bool
  pub total : (a b : List ℕ) → not_above a b ≡ false → not_above b a ≡ true
  pub transitive : (a b c : List ℕ) → not_above a b ≡ true → not_above b c ≡ true → not_above a c ≡ true
  -- the same charges put in front keep the order
  pub monotone : (a b c : List ℕ) → not_above a b ≡ true → not_above (c ++ a) (c ++ b) ≡ true
  -- single charges are ordered as numbers
  pub faithful : (m n : ℕ) → m ≤ largest_charge → n ≤ largest_charge → not_above (m ∷ []) (n ∷ []) ≡ nat_le m n

-- lists of charges as a kind of measure of their own, under a test "not above"
abbrev pub charge_lists : (List ℕ → List ℕ → Bool) → Kind (List ℕ)
charge_lists not_above = record { nought = []; of = λ c. c ∷ []; join = λ a b. a ++ b; not_above = not_above }

-- one list is not above another where its measure is not
abbrev pub not_above_by : {M : Type 0} → Kind M → List ℕ → List ℕ → Bool
not_above_by q a b = q.not_above (measure_of q a) (measure_of q b)

-- the measure of two lists in a row
pub measure_append : {M : Type 0} {q : Kind M} (laws : Laws q) (a b : List ℕ) → measure_of q (a ++ b) ≡ q.join (measure_of q a) (measure_of q b)
measure_append {q = q} laws [] b = sym (laws.neutral_left (measure_of q b))
measure_append {q = q} laws (c ∷ a) b =
    ap (q.join (q.of c)) (measure_append laws a b) ∙ sym (laws.associative (q.of c) (measure_of q a) (measure_of q b))

-- the order of a kind of measure that keeps its laws
abbrev pub order_of : {M : Type 0} {q : Kind M} → Laws q → Order
order_of {M} {q} laws = record {
  not_above = not_above_by q;
  total = λ a b. laws.total (measure_of q a) (measure_of q b);
  transitive = λ a b c. laws.transitive (measure_of q a) (measure_of q b) (measure_of q c);
  monotone = λ a b c h. subst (λ (v : M). q.not_above v (measure_of q (c ++ b)) ≡ true) (sym (measure_append laws c a)) (subst (λ (v : M). q.not_above (q.join (measure_of q c) (measure_of q a)) v ≡ true) (sym (measure_append laws c b)) (laws.monotone (measure_of q a) (measure_of q b) (measure_of q c) h));
  faithful = λ m n h i. subst (λ (v : M). q.not_above v (q.join (q.of n) q.nought) ≡ nat_le m n) (sym (laws.neutral_right (q.of m))) (subst (λ (v : M). q.not_above (q.of m) v ≡ nat_le m n) (sym (laws.neutral_right (q.of n))) (laws.faithful m n h i));
}

-- what a measure means to planning: an order on lists of charges that is that of their measures; two lists may be level
pub record OrdersCharges {M : Type 0} (q : Kind M) : Type 0 where
  pub order : Order
  pub by_values : (a b : List ℕ) → order.not_above a b ≡ q.not_above (measure_of q a) (measure_of q b)
