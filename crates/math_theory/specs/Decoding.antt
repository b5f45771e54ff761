-- Polynomials that agree with most of the values given at some points.
use Rattle.std.specs.List.{Contains}
use Rattle.std.specs.List.Sorted.{IsStrictlyIncreasing}
use Rattle.std.specs.Prelude.{◌+◌, ◌≤◌, ◌<◌, ℕ, List, length, slice_index_or, All}
use Rattle.math_theory.specs.Values.{value}

-- at each point outside these places the value of a is same as the value given there
abbrev pub AgreesOutside : {A : Type 0} → (A → A → Type 0) → A → (A → A → A) → (A → A → A) → A → List A → List A → List ℕ → List A → Type 0
AgreesOutside same zero sum product one points values places a =
    (i : ℕ) → i < length points → ¬ (Contains places i) → same (value zero sum product one (slice_index_or points i zero) a) (slice_index_or values i zero)

-- by rising number, the places at which the value of a is not same as the value given there
pub record AreWrongPlaces {A : Type 0} (same : A → A → Type 0) (zero : A) (sum : A → A → A) (product : A → A → A) (one : A)
    (points values a : List A) (wrong : List ℕ) : Type 0 where
  pub rising : IsStrictlyIncreasing wrong
  pub below : All (λ i. i < length points) wrong
  pub differ : All (λ i. ¬ (same (value zero sum product one (slice_index_or points i zero) a) (slice_index_or values i zero))) wrong
  pub agree : AgreesOutside same zero sum product one points values wrong a

-- a has at most count coefficients, and agrees with the values given at m points outside some e places, where 2 e + count is at most m
abbrev pub IsWithinRadius : {A : Type 0} → (A → A → Type 0) → A → (A → A → A) → (A → A → A) → A → List A → List A → ℕ → List A → Type 0
IsWithinRadius same zero sum product one points values count a =
    (length a ≤ count) × (places : List ℕ) × (length places + length places + count ≤ length points) × AgreesOutside same zero sum product one points values places a

-- at each point the value of r is the value of v times the value given there
abbrev pub IsKept : {A : Type 0} → (A → A → Type 0) → A → (A → A → A) → (A → A → A) → A → List A → List A → List A → List A → Type 0
IsKept same zero sum product one points values r v =
    (i : ℕ) → i < length points
    → let x = slice_index_or points i zero in
    same (value zero sum product one x r) (product (value zero sum product one x v) (slice_index_or values i zero))
