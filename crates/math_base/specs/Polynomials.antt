-- Polynomials with coefficients in a ring itself, their zeros, and weights by which their values at some points give the value elsewhere.
use Rattle.std.specs.Prelude.{◌≤◌, ◌-◌, List, length, All}
use Rattle.math_theory.specs.Coefficients.{coefficient, IsZeroPolynomial}
use Rattle.math_theory.specs.Interpolation as Interpolation
use Rattle.math_theory.specs.Interpolation.{AreApart}
use Rattle.math_theory.specs.Values as Values
use Rattle.math_base.specs.Members.{RingOf, SpaceOf, value}

-- the value at r of the polynomial with coefficients a in the ring: the sum of a_i times r to the power i
abbrev pub value_in_ring : {A : Type 0} → RingOf A → List A → A → A
value_in_ring R a r = Values.value R.zero R.sum R.product R.one r a

-- a list of m coefficients, not all same as zero, takes the value zero at no more than m - 1 points of which no two are same
abbrev pub HasFewZeros : {A : Type 0} → RingOf A → Type 0
HasFewZeros {A} R = (a points : List A) → ¬ (IsZeroPolynomial R.same R.zero a) → AreApart R.same points → All (λ x. R.same (value_in_ring R a x) R.zero) points → length points ≤ length a - 1

-- the value at zero of the polynomial with coefficients a in a space is the first coefficient, and zero where there is none
abbrev pub HasConstantAtZero : {A B : Type 0} → SpaceOf A B → RingOf B → Type 0
HasConstantAtZero {A} S R = (a : List A) → S.same (value S R a R.zero) (coefficient S.zero a 0)

-- for every list of at most as many coefficients as points, the sum of its values at the points, each times its weight, is same as its value at x
abbrev pub AreWeightsAt : {A : Type 0} → RingOf A → A → List A → List A → Type 0
AreWeightsAt R x points weights = Interpolation.AreWeightsAt R.same R.zero R.sum R.product R.one x points weights
