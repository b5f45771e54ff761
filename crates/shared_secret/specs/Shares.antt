-- Shares of a secret: the points of their indices, and what is dealt, combined and verified.
use Rattle.std.specs.List.{range_with_len}
use Rattle.std.specs.Prelude.{◌≡◌, ◌-◌, ◌≤◌, ℕ, List, Option, Some, length, map, drop, take, slice_get, slice_index_or, ◌<◌, All}
use Rattle.rand_core.specs.Stream.{Stream}
use Rattle.math_theory.specs.Interpolation.{AreApart}
use Rattle.math_theory.specs.Powers.{multiple}
use Rattle.math_theory.specs.Sums.{weighted_sum}
use Rattle.math_base.specs.Members.{RingOf, SpaceOf, value}
use Rattle.math_base.specs.Polynomials.{AreWeightsAt, value_in_ring}
use Rattle.math_base.specs.Samples.{samples}
use Rattle.math_base.specs.declared.algebra.RandomError.{RandomError}
use Rattle.math_base.specs.declared.algebra.RandomError.TheVariants as random
use Rattle.shared_secret.specs.declared.error.DealError.{DealError}
use Rattle.shared_secret.specs.declared.error.DealError.TheVariants as deal
use Rattle.shared_secret.specs.declared.shares.Share.{Share}

-- the point of an index: the index-fold sum of one
abbrev pub point : {A : Type 0} → RingOf A → ℕ → A
point R index = multiple R.zero R.sum R.one index

-- the points of the shares, in order
abbrev pub points : {A : Type 0} → RingOf A → List (Share A) → List A
points R shares = map (λ s. point R s.index) shares

-- the values of the shares, in order
abbrev pub values : {A : Type 0} → List (Share A) → List A
values shares = map (λ s. s.value) shares

-- the value of each share is same as the value of the polynomial p at its point
abbrev pub AreSharesOf : {A : Type 0} → RingOf A → List A → List (Share A) → Type 0
AreSharesOf R p shares = All (λ s. R.same s.value (value_in_ring R p (point R s.index))) shares

-- the point of one of the indices 1 to n is zero
abbrev pub HasZeroPoint : {A : Type 0} → RingOf A → ℕ → Type 0
HasZeroPoint R n = (index : ℕ) × (0 < index) × (index ≤ n) × R.same (point R index) R.zero

-- the point of one of the shares is zero
abbrev pub HasZeroIndex : {A : Type 0} → RingOf A → List (Share A) → Type 0
HasZeroIndex {A} R shares = (i : ℕ) × (x : A) × (i < length shares) × R.same (slice_index_or (points R shares) i x) R.zero

-- no share has the point zero, and no two have one point
abbrev pub AreAtDistinctPoints : {A : Type 0} → RingOf A → List (Share A) → Type 0
AreAtDistinctPoints R shares = (¬ (HasZeroIndex R shares)) × AreApart R.same (points R shares)

-- of the shares, the first that can't stand with those before it has the point zero
abbrev pub IsZeroFirst : {A : Type 0} → RingOf A → List (Share A) → Type 0
IsZeroFirst {A} R shares = (k : ℕ) × (x : A) × (k < length shares) × AreAtDistinctPoints R (take k shares) × R.same (slice_index_or (points R shares) k x) R.zero

-- of the shares, the first that can't stand with those before it has the point of one of them, which is not zero
abbrev pub IsRepeatedFirst : {A : Type 0} → RingOf A → List (Share A) → Type 0
IsRepeatedFirst {A} R shares = (k : ℕ) × (x : A) × (k < length shares) × AreAtDistinctPoints R (take k shares) × (¬ (R.same (slice_index_or (points R shares) k x) R.zero))
    × ((i : ℕ) × (i < k) × R.same (slice_index_or (points R shares) i x) (slice_index_or (points R shares) k x))

-- t coefficients: the secret, and then the next samples of a source, which they take from `before` to `after`
pub record IsSampled {A : Type 0} (sample : Stream → Option A × Stream) (secret : A) (t : ℕ) (before after : Stream) (p : List A) : Type 0 where
  pub count : length p ≡ t
  pub constant : slice_get p 0 ≡ Some secret
  pub others : samples sample (t - 1) before ≡ (Some (drop 1 p), after)

-- a refused sample as a refused deal
abbrev pub refusal_of : RandomError → DealError
refusal_of (random.Memory e) = deal.Memory e
refusal_of random.TooManyWords = deal.TooManyWords

-- the shares of the polynomial p with the indices 1 to n in order, none of whose points is zero
pub record AreDealt {A : Type 0} (R : RingOf A) (n : ℕ) (p : List A) (shares : List (Share A)) : Type 0 where
  pub indices : map (λ s. s.index) shares ≡ range_with_len 1 n
  pub values : AreSharesOf R p shares
  pub points : ¬ (HasZeroPoint R n)

-- at least t shares, none with the point zero, and no two with one point
pub record AreCombinable {A : Type 0} (R : RingOf A) (t : ℕ) (shares : List (Share A)) : Type 0 where
  pub enough : t ≤ length shares
  pub nonzero : ¬ (HasZeroIndex R shares)
  pub apart : AreApart R.same (points R shares)

-- the sum of the values, each times the weight of its point for the value at zero
pub record IsCombined {A : Type 0} (R : RingOf A) (shares : List (Share A)) (secret : A) : Type 0 where
  pub weights : List A
  pub give : AreWeightsAt R R.zero (points R shares) weights
  pub sum : R.same secret (weighted_sum R.zero R.sum R.product (values shares) weights)

-- the generator scaled by the value is same as the value of the commitment at the point
abbrev pub IsVerified : {A B : Type 0} → SpaceOf A B → RingOf B → A → List A → Share B → Type 0
IsVerified S R generator commitment share = S.same (S.scaling generator share.value) (value S R commitment (point R share.index))
