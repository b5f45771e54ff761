-- Words as weights by which values at some points give the value elsewhere.
use Rattle.std.specs.Prelude.{◌≡◌, ℕ, ◌<◌, ◌^◌, List, length, All}
use Rattle.std.specs.Int.{IsNextPowerOfTwo}
use Rattle.math_numbers.specs.Goldilocks.{P}
use Rattle.math_theory.specs.Interpolation.{AreApart, SomeAreSame, IsFirstPlace, IsOneAt}
use Rattle.math_fields.specs.Elements.{residue, same, root_of}
use Rattle.math_base.specs.Polynomials.{AreWeightsAt}
use Rattle.math_transforms.specs.RootWeights.{AreRising, powers_at}
use Rattle.c_calls.specs.WordElements.{AreElements, elements, goldilocks}

-- the weights for the value at x over the points: one at the first point that is x, and zeros elsewhere; and zeros where no point is x, and
-- a point is there twice
pub record AreWordWeights (x : ℕ) (points weights : List ℕ) : Type 0 where
  pub x_below : x < P
  pub points_below : AreElements points
  pub weights_below : AreElements weights
  pub count : length weights ≡ length points
  pub at_point : (k : ℕ) → IsFirstPlace same (residue x) (elements points) k → IsOneAt same (residue 0) (residue 1) k (elements weights)
  pub repeated : All (λ p. ¬ (same p (residue x))) (elements points) → SomeAreSame same (elements points) → All (λ v. same v (residue 0)) (elements weights)
  pub at_others : AreApart same (elements points) → AreWeightsAt goldilocks (residue x) (elements points) (elements weights)

-- the weights for the value at x over the powers, with these exponents, of the root of order 2^lg, which is total rounded up to a power of two
pub record AreWordWeightsAtRoots (x total : ℕ) (indices weights : List ℕ) : Type 0 where
  pub x_below : x < P
  pub rising : AreRising total indices
  pub weights_below : AreElements weights
  pub count : length weights ≡ length indices
  pub at_roots : (lg : ℕ) → IsNextPowerOfTwo total (2 ^ lg) → AreWeightsAt goldilocks (residue x) (powers_at goldilocks (root_of lg) indices) (elements weights)
