-- Division of polynomials with remainder, over the ring of a trait.
use Rattle.std.specs.Prelude.{◌≡◌, ◌-◌, ℕ, List, length}
use Rattle.math_theory.specs.Division as Division
use Rattle.math_base.specs.Members.{RingOf}
use Rattle.math_decoding.specs.Polynomials.{AreSame, HasExactDegree}

-- p is q times d plus r, and each coefficient of r from n on is same as zero
abbrev pub IsDivision : {A : Type 0} → RingOf A → ℕ → List A → List A → List A → List A → Type 0
IsDivision R n p d q r = Division.IsDivision R.same R.zero R.sum R.product n p d q r

-- p is q times d, moved up by i places, plus what is left
abbrev pub IsDividedDownTo : {A : Type 0} → RingOf A → ℕ → List A → List A → List A → List A → Type 0
IsDividedDownTo R i p d q left = Division.IsDividedDownTo R.same R.zero R.sum R.product i p d q left

-- by d of degree n, p has the quotient q, of n coefficients less than p, and the remainder r, of n coefficients, and no other ones
pub record IsDivided {A : Type 0} (R : RingOf A) (p d q r : List A) (n : ℕ) : Type 0 where
  pub degree : HasExactDegree R d n
  pub quotient : length q ≡ length p - n
  pub remainder : length r ≡ n
  pub division : IsDivision R n p d q r
  pub only : (q' r' : List A) → IsDivision R n p d q' r' → AreSame R q' q × AreSame R r' r
