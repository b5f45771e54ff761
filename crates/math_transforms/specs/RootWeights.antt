-- Weights at the points of a domain that have given indices.
use Rattle.std.specs.Prelude.{◌≡◌, ◌↔◌, ℕ, ◌<◌, ◌≤◌, ◌^◌, List, Bool, true, false, length, map, slice_index_or, All, Contains}
use Rattle.std.specs.Int.{IsNextPowerOfTwo}
use Rattle.std.specs.List.Sorted.{IsStrictlyIncreasing}
use Rattle.std.specs.Map.{keys_of, values_of}
use Rattle.math_theory.specs.Powers.{power}
use Rattle.math_base.specs.Members.{RingOf}
use Rattle.math_base.specs.Polynomials.{AreWeightsAt}

-- where 2^lg is total rounded up to a power of two, lg is at most the greatest one
abbrev pub HasDomainOf : ℕ → ℕ → Type 0
HasDomainOf greatest total = (lg : ℕ) → IsNextPowerOfTwo total (2 ^ lg) → lg ≤ greatest

-- the true places are the items of xs that are below total
abbrev pub AreTrueAt : ℕ → List ℕ → List Bool → Type 0
AreTrueAt total xs filled = (i : ℕ) → (slice_index_or filled i false ≡ true) ↔ (Contains xs i × (i < total))

-- the indices rise, and are the items of xs that are below total
pub record AreIndicesBelow (total : ℕ) (xs indices : List ℕ) : Type 0 where
  pub rise : IsStrictlyIncreasing indices
  pub exactly : (i : ℕ) → Contains indices i ↔ (Contains xs i × (i < total))

-- the indices rise, and are below the total
abbrev pub AreRising : ℕ → List ℕ → Type 0
AreRising total indices = IsStrictlyIncreasing indices × All (λ i. i < total) indices

-- the powers of w with these exponents
abbrev pub powers_at : {A : Type 0} → RingOf A → A → List ℕ → List A
powers_at R w exponents = map (λ i. power R.one R.product w i) exponents

-- where 2^lg is total rounded up to a power of two, these are weights for the value at x at powers of root lg, each with its index
abbrev pub AreRootWeightsAt : {A : Type 0} → RingOf A → (ℕ → A) → ℕ → A → List (ℕ × A) → Type 0
AreRootWeightsAt R root total x weights =
    (lg : ℕ) → IsNextPowerOfTwo total (2 ^ lg) → AreWeightsAt R x (powers_at R (root lg) (keys_of weights)) (values_of weights)

-- each point is same as the power of w with its exponent
pub record ArePointsAt {A : Type 0} (R : RingOf A) (w : A) (exponents : List ℕ) (points : List A) : Type 0 where
  pub count : length points ≡ length exponents
  pub each : (k : ℕ) → k < length exponents → R.same (slice_index_or points k R.zero) (power R.one R.product w (slice_index_or exponents k 0))
