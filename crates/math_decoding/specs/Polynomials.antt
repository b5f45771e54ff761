-- Polynomials, as lists of coefficients from the constant upwards, over the ring of a trait: the same, sums, differences, products and multiples.
use Rattle.std.specs.Prelude.{◌<◌, ◌-◌, ℕ, List, length}
use Rattle.math_theory.specs.Coefficients as Coefficients
use Rattle.math_theory.specs.Division as Division
use Rattle.math_base.specs.Members.{RingOf}

-- coefficient i, which is zero past the end of the list
abbrev pub coefficient : {A : Type 0} → RingOf A → List A → ℕ → A
coefficient R p i = Coefficients.coefficient R.zero p i

-- the same coefficients, the shorter list padded with zeros
abbrev pub AreSame : {A : Type 0} → RingOf A → List A → List A → Type 0
AreSame R p q = Coefficients.HaveSameCoefficients R.same R.zero p q

-- the sum of p and the negative of q
abbrev pub difference : {A : Type 0} → RingOf A → List A → List A → List A
difference R p q = Coefficients.polynomial_difference R.sum R.negative p q

-- the product of p and q
abbrev pub product : {A : Type 0} → RingOf A → List A → List A → List A
product R p q = Coefficients.polynomial_product R.zero R.sum R.product p q

-- each coefficient times c
abbrev pub multiple : {A : Type 0} → RingOf A → List A → A → List A
multiple R p c = Coefficients.polynomial_multiple R.product p c

-- X to the power i times p
abbrev pub moved_up : {A : Type 0} → RingOf A → ℕ → List A → List A
moved_up R i p = Division.moved_up R.zero i p

-- every coefficient is same as zero
abbrev pub IsZero : {A : Type 0} → RingOf A → List A → Type 0
IsZero R p = Coefficients.IsZeroPolynomial R.same R.zero p

-- coefficient n is not same as zero, and each later one is
abbrev pub HasExactDegree : {A : Type 0} → RingOf A → List A → ℕ → Type 0
HasExactDegree R p n = Division.HasExactDegree R.same R.zero p n

-- the last coefficient, where there is one, is not same as zero
abbrev pub IsTrimmed : {A : Type 0} → RingOf A → List A → Type 0
IsTrimmed R p = 0 < length p → HasExactDegree R p (length p - 1)
