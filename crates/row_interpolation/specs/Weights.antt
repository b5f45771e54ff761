-- Weights by which the rows of given indices give the row of another one, column by column.
use Rattle.std.specs.Prelude.{◌≡◌, ℕ, ◌*◌, ◌<◌, ◌≤◌, ◌^◌, List, All, Contains, length, take, drop, slice_index, remove}
use Rattle.std.specs.Int.{IsNextPowerOfTwo}
use Rattle.math_theory.specs.Interpolation.{AreApart}
use Rattle.math_theory.specs.Powers.{power}
use Rattle.math_theory.specs.RootProducts.{root_product}
use Rattle.math_fields.specs.declared.goldilocks.F.{F}
use Rattle.math_fields.specs.Elements.{residue, same, sum, negative, product, root_of, goldilocks}
use Rattle.math_base.specs.Polynomials.{AreWeightsAt}
use Rattle.math_restoring.specs.Restored.{item}
use Rattle.math_transforms.specs.RootWeights.{AreRising, powers_at}

-- part number i of the parts of n items
abbrev pub part_of : ℕ → List F → ℕ → List F
part_of n items i = take n (drop (i * n) items)

-- the weights by which the values of a polynomial at these indices give its value at another one
abbrev pub AreWeightsFor : ℕ → List ℕ → ℕ → List F → Type 0
AreWeightsFor lg indices index weights = AreWeightsAt goldilocks (power (residue 1) product (root_of lg) index) (powers_at goldilocks (root_of lg) indices) weights

-- the first n rows of the weights, each with a weight for each of the indices, give the rows that are wanted from the rows of these indices
pub record AreWeightRows (total : ℕ) (indices wanted : List ℕ) (n : ℕ) (weights : List F) : Type 0 where
  pub size : length weights ≡ n * length indices
  pub each : (lg j : ℕ) → IsNextPowerOfTwo total (2 ^ lg) → j < n → AreWeightsFor lg indices (slice_index wanted j) (part_of (length indices) weights j)

-- the product of x - p over the points p
abbrev pub differences : F → List F → F
differences x points = root_product sum negative product (residue 1) x points

-- each of the first n is the product of the differences of its point from the other points
pub record AreOwnProducts (points : List F) (n : ℕ) (own : List F) : Type 0 where
  pub count : length own ≡ n
  pub each : (k : ℕ) → k < n → item own k ≡ differences (item points k) (remove points k)

-- the points are apart from each other, and x is none of them
pub record AreOutside (x : F) (points : List F) : Type 0 where
  pub apart : AreApart same points
  pub outside : All (λ p. ¬ (same p x)) points

-- the indices rise below `total`, and those that are wanted are others below it
pub record AreWanted (total : ℕ) (indices wanted : List ℕ) : Type 0 where
  pub some : 1 ≤ total
  pub rising : AreRising total indices
  pub below : All (λ i. i < total) wanted
  pub missing : All (λ i. ¬ (Contains indices i)) wanted

-- these are the points of the indices in the least domain of `total` points, of 2^lg, each with the product of its differences from the other ones
pub record ArePointsOf (total lg : ℕ) (indices : List ℕ) (points own : List F) : Type 0 where
  pub domain : IsNextPowerOfTwo total (2 ^ lg)
  pub are : points ≡ powers_at goldilocks (root_of lg) indices
  pub products : AreOwnProducts points (length points) own
