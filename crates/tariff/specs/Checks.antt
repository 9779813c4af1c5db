-- Words: the refusal of a check and its number, what a check answers.
use Rattle.std.specs.Prelude.{◌≡◌, ℕ, Bool, true, cond, ◌&&◌, List, Ok, Err, Result, nat_le}
use Rattle.tariff.specs.declared.checked.Coefficients.{Coefficients}
use Rattle.tariff.specs.declared.checked.Bounded.{Bounded}
use Rattle.tariff.specs.declared.refusal.TariffRefusal.{TariffRefusal}
use Rattle.tariff.specs.declared.refusal.TariffRefusal.TheVariants.{PastBound}
use Rattle.tariff.specs.Bounds.{base_bound, linear_bound, cube_bound}

abbrev pub refusal_number : TariffRefusal → ℕ
refusal_number PastBound = 14

-- an answer, with what f tells of an accepted value in its place
abbrev pub told : {X Y E : Type 0} → (X → Y) → Result X E → Result Y E
told f (Ok x) = Ok (f x)
told f (Err e) = Err e

abbrev pub values_of : {N BOUND : ℕ} → Bounded N BOUND → List ℕ
values_of b = b.values

abbrev pub coefficients_of : Coefficients → ℕ × ℕ × ℕ
coefficients_of c = (c.base, c.linear, c.cube)

abbrev pub coefficients_within : ℕ → ℕ → ℕ → Bool
coefficients_within base linear cube = nat_le base base_bound && (nat_le linear linear_bound && nat_le cube cube_bound)

-- x where it is within its bounds, else the refusal
abbrev pub unless_past : {X : Type 0} → Bool → X → Result X TariffRefusal
unless_past within x = cond within (Ok x) (Err PastBound)

-- a test that passes exactly where what it tests holds
pub record TestIsExact (P : Type 0) (test : Bool) : Type 0 where
  pub passes : P → test ≡ true
  pub keeps : test ≡ true → P
