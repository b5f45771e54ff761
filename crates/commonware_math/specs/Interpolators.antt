-- Weights for the points of given keys, and key lists that are equal.
use Rattle.std.specs.Prelude.{◌≡◌, ℕ, List, length, All}
use Rattle.std.specs.declared.cmp.Ordering.{Ordering}
use Rattle.std.specs.declared.cmp.Ordering.TheVariants.{Equal}
use Rattle.std.specs.List.{AllZip}
use Rattle.std.specs.Map.{keys_of, values_of}
use Rattle.math_theory.specs.Interpolation.{AreApart, SomeAreSame, IsFirstPlace, IsOneAt}
use Rattle.math_codec.specs.OrderedMaps.{HasFirstOfEachKey}
use Rattle.math_base.specs.Members.{RingOf}
use Rattle.math_base.specs.Polynomials.{AreWeightsAt}

-- the weights by which the values at the points give the value at x, also where points are same
pub record AreWeightsOfPoints {A : Type 0} (R : RingOf A) (x : A) (points weights : List A) : Type 0 where
  -- each point has a weight
  pub count : length weights ≡ length points
  -- where points are same as x, the first of them has weight one, and every other point zero
  pub at_point : (k : ℕ) → IsFirstPlace R.same x points k → IsOneAt R.same R.zero R.one k weights
  -- otherwise, where two points are same, all weights are zero
  pub repeated : All (λ p. ¬ (R.same p x)) points → SomeAreSame R.same points → All (λ w. R.same w R.zero) weights
  -- where no two points are same, they give the value at x
  pub give : AreApart R.same points → AreWeightsAt R x points weights
  -- and all that do are same as they
  pub only : AreApart R.same points → (others : List A) → AreWeightsAt R x points others → AllZip R.same others weights

-- keyed weights for the value at x, of pairs of a key and a point
pub record InterpolatesAt {I A : Type 0} (cmp : I → I → Ordering) (R : RingOf A) (x : A) (pairs weights : List (I × A)) : Type 0 where
  -- of each key the first pair counts, and they go by rising key
  pub points : List (I × A)
  pub first : HasFirstOfEachKey cmp pairs points
  -- each point's weight has its key
  pub keys : keys_of weights ≡ keys_of points
  pub each : AreWeightsOfPoints R x (values_of points) (values_of weights)

-- the keys of both are equal, place by place
abbrev pub HaveEqualKeys : {I A B : Type 0} → (I → I → Ordering) → List (I × A) → List (I × B) → Type 0
HaveEqualKeys cmp pairs others = AllZip (λ k l. cmp k l ≡ Equal) (keys_of pairs) (keys_of others)
