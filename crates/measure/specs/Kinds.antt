-- Words: kind of measure, its laws, the measure of a list of charges.
use Rattle.std.specs.Prelude.{◌≡◌, ℕ, ◌≤◌, Bool, true, false, List, [], ◌∷◌, nat_le}
use Rattle.tariff.specs.Charges.{largest_charge}

-- a kind of measure over its values: a nought, the measure of a charge, a joining, and the test "not above"
pub record Kind (M : Type 0) : Type 0 where
  pub nought : M
  pub of : ℕ → M
  pub join : M → M → M
  pub not_above : M → M → Bool

-- what every kind of measure has to show
pub record Laws {M : Type 0} (q : Kind M) : Type 0 where
  -- "not above" is a total order
  pub total : (a b : M) → q.not_above a b ≡ false → q.not_above b a ≡ true
  pub transitive : (a b c : M) → q.not_above a b ≡ true → q.not_above b c ≡ true → q.not_above a c ≡ true
  pub antisymmetric : (a b : M) → q.not_above a b ≡ true → q.not_above b a ≡ true → a ≡ b
  -- joining and nought make a monoid
  pub associative : (a b c : M) → q.join (q.join a b) c ≡ q.join a (q.join b c)
  pub neutral_left : (a : M) → q.join q.nought a ≡ a
  pub neutral_right : (a : M) → q.join a q.nought ≡ a
  -- which keeps the order, on the right
  pub monotone : (a b c : M) → q.not_above a b ≡ true → q.not_above (q.join c a) (q.join c b) ≡ true
  -- charges are ordered as numbers
  pub faithful : (m n : ℕ) → m ≤ largest_charge → n ≤ largest_charge → q.not_above (q.of m) (q.of n) ≡ nat_le m n

-- what a list of charges comes to
abbrev pub measure_of : {M : Type 0} → Kind M → List ℕ → M
measure_of q [] = q.nought
measure_of q (c ∷ cs) = q.join (q.of c) (measure_of q cs)
