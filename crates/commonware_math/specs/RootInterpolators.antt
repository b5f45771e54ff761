-- Keyed points at roots of unity.
use Rattle.std.specs.Prelude.{ℕ, List, map, filter, nat_lt, is_some}
use Rattle.std.specs.List.{AllZip}
use Rattle.std.specs.Map.{values_of}
use Rattle.std.specs.Option.{unwrap_or}
use Rattle.std.specs.Ordering.{nat_cmp}
use Rattle.std.specs.declared.cmp.Ordering.{Ordering}
use Rattle.math_codec.specs.OrderedMaps.{value_at}
use Rattle.math_theory.specs.Powers.{power}
use Rattle.math_base.specs.Members.{RingOf}
use Rattle.math_base.specs.Polynomials.{AreWeightsAt}
use Rattle.math_transforms.specs.RootWeights.{powers_at}
use Rattle.commonware_math.specs.Interpolators.{InterpolatesAt}

-- the pairs whose index is below total
abbrev pub pairs_below : {I : Type 0} → ℕ → List (I × ℕ) → List (I × ℕ)
pairs_below total pairs = filter (λ p. nat_lt p.1 total) pairs

-- each key with the power of w that has its index
abbrev pub pairs_at_powers : {I A : Type 0} → RingOf A → A → List (I × ℕ) → List (I × A)
pairs_at_powers R w pairs = map (λ p. (p.0, power R.one R.product w p.1)) pairs

-- keyed weights for the value at x, of pairs of a key and the index of a power of w: these give it, and no others do
pub record InterpolatesAtPowers {I A : Type 0} (cmp : I → I → Ordering) (R : RingOf A) (w x : A) (pairs : List (I × ℕ)) (weights : List (I × A)) : Type 0 where
  -- each key has the weight of its point
  pub keyed : InterpolatesAt cmp R x (pairs_at_powers R w pairs) weights
  -- they give the value at x
  pub give : AreWeightsAt R x (powers_at R w (values_of pairs)) (values_of weights)
  -- and all that do are same as they
  pub only : (others : List A) → AreWeightsAt R x (powers_at R w (values_of pairs)) others → AllZip R.same others (values_of weights)

-- the weight at index i, and zero where there is none
abbrev pub weight_at : {A : Type 0} → A → List (ℕ × A) → ℕ → A
weight_at zero_of weights i = unwrap_or (value_at nat_cmp i weights) zero_of

-- the pairs at whose index there is a weight
abbrev pub weighted_pairs : {I A : Type 0} → List (ℕ × A) → List (I × ℕ) → List (I × ℕ)
weighted_pairs weights pairs = filter (λ p. is_some (value_at nat_cmp p.1 weights)) pairs
