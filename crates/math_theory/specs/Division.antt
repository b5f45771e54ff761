-- Division of polynomials with remainder.
use Rattle.std.specs.Prelude.{◌≤◌, ◌<◌, ℕ, zero, suc, List, ◌∷◌}
use Rattle.math_theory.specs.Coefficients.{coefficient, HaveSameCoefficients, polynomial_sum, polynomial_product}

-- coefficient n is not same as zero, and each later one is
pub record HasExactDegree {A : Type 0} (same : A → A → Type 0) (zero_of : A) (a : List A) (n : ℕ) : Type 0 where
  pub leading : ¬ (same (coefficient zero_of a n) zero_of)
  pub above : (i : ℕ) → n < i → same (coefficient zero_of a i) zero_of

-- p is q times d plus r, and each coefficient of r from n on is same as zero
pub record IsDivision {A : Type 0} (same : A → A → Type 0) (zero_of : A) (sum : A → A → A) (product : A → A → A)
    (n : ℕ) (p d q r : List A) : Type 0 where
  pub gives : HaveSameCoefficients same zero_of p (polynomial_sum sum (polynomial_product zero_of sum product q d) r)
  pub below : (i : ℕ) → n ≤ i → same (coefficient zero_of r i) zero_of

-- the coefficients moved up by i places: the product by the power i of X
abbrev pub moved_up : {A : Type 0} → A → ℕ → List A → List A
moved_up zero_of zero p = p
moved_up zero_of (suc i) p = zero_of ∷ moved_up zero_of i p

-- p is q times d, moved up by i places, plus what is left
abbrev pub IsDividedDownTo : {A : Type 0} → (A → A → Type 0) → A → (A → A → A) → (A → A → A) → ℕ → List A → List A → List A → List A → Type 0
IsDividedDownTo same zero_of sum product i p d q left =
    HaveSameCoefficients same zero_of p (polynomial_sum sum (moved_up zero_of i (polynomial_product zero_of sum product q d)) left)
