-- Words: peak as a kind of measure: the larger of two.
use Rattle.std.specs.Prelude.{◌≡◌, ℕ, ◌≤◌, max, List, nat_le, slice_index, slice_index_or, refl}
use Rattle.std.proofs.Common.{ap, arith, leb-true, le-leb, leb-false}
use Rattle.measure.specs.Kinds.{Kind, Laws, measure_of}
use Rattle.measure.specs.declared.amounts.Peak.{Peak}

abbrev pub peak_at : ℕ → Peak
peak_at n = record { value = n }

abbrev pub peak : Kind Peak
peak = record { nought = peak_at 0; of = peak_at; join = λ a b. peak_at (max a.value b.value); not_above = λ a b. nat_le a.value b.value }

pub peak_laws : Laws peak
peak_laws = record {
  total = λ a b h. le-leb _ _ (omega (arith, leb-false a.value b.value h));
  transitive = λ a b c h i. le-leb _ _ (omega (arith, leb-true a.value b.value h, leb-true b.value c.value i));
  antisymmetric = λ a b h i. let e : a.value ≡ b.value = omega (arith, leb-true a.value b.value h, leb-true b.value a.value i) in ap peak_at e;
  associative = λ a b c. let e : max (max a.value b.value) c.value ≡ max a.value (max b.value c.value) = omega arith in ap peak_at e;
  neutral_left = λ a. let e : max 0 a.value ≡ a.value = omega arith in ap peak_at e;
  neutral_right = λ a. let e : max a.value 0 ≡ a.value = omega arith in ap peak_at e;
  monotone = λ a b c h. le-leb _ _ (omega (arith, leb-true a.value b.value h));
  faithful = λ m n h i. refl;
}

-- no charge of the list is above the number, and one is the number itself; of no charges it is 0
pub record Largest (cs : List ℕ) (n : ℕ) : Type 0 where
  pub above_each : (i : ℕ) → slice_index cs i ≤ n
  pub place : ℕ
  pub one_of_them : slice_index_or cs place 0 ≡ n

-- the peak of a list of charges is the largest of them
abbrev pub PeakIsTheLargest : Type 0
PeakIsTheLargest = (cs : List ℕ) → Largest cs (measure_of peak cs).value
