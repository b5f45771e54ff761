-- Values that stand at some points, and the polynomials that agree with most of them, over the ring of a trait.
use Rattle.std.specs.Prelude.{◌≡◌, ◌+◌, ◌<◌, ◌≤◌, ℕ, List, length, slice_index_or}
use Rattle.math_theory.specs.Decoding as Decoding
use Rattle.math_base.specs.Members.{RingOf}
use Rattle.math_decoding.specs.Polynomials.{AreSame}

-- by rising number, the places at which the value of a is not same as the value given there
abbrev pub AreWrongPlaces : {A : Type 0} → RingOf A → List A → List A → List A → List ℕ → Type 0
AreWrongPlaces R points values a wrong = Decoding.AreWrongPlaces R.same R.zero R.sum R.product R.one points values a wrong

-- a has at most count coefficients, and agrees with the values given at m points outside some e places, where 2 e + count is at most m
abbrev pub IsWithinRadius : {A : Type 0} → RingOf A → List A → List A → ℕ → List A → Type 0
IsWithinRadius R points values count a = Decoding.IsWithinRadius R.same R.zero R.sum R.product R.one points values count a

-- at each point the value of r is the value of v times the value given there
abbrev pub IsKept : {A : Type 0} → RingOf A → List A → List A → List A → List A → Type 0
IsKept R points values r v = Decoding.IsKept R.same R.zero R.sum R.product R.one points values r v

-- a has count coefficients, the places are the ones at which it differs from the values given at m points, twice their number plus count is
-- at most m, and every polynomial within that radius is the same
pub record IsDecoded {A : Type 0} (R : RingOf A) (points values : List A) (count : ℕ) (a : List A) (wrong : List ℕ) : Type 0 where
  pub number : length a ≡ count
  pub places : AreWrongPlaces R points values a wrong
  pub few : length wrong + length wrong + count ≤ length points
  pub only : (b : List A) → IsWithinRadius R points values count b → AreSame R b a

-- a point after the one at index i is the same
abbrev pub StandsAgain : {A : Type 0} → (A → A → Type 0) → List A → ℕ → Type 0
StandsAgain {A} same points i = (j : ℕ) × (d : A) × (i < j) × (j < length points) × same (slice_index_or points i d) (slice_index_or points j d)
