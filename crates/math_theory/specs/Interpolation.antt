-- Weights at given points, by which the values of a polynomial there give its value elsewhere.
use Rattle.std.specs.List.{range_with_len}
use Rattle.std.specs.Prelude.{◌≡◌, ◌≢◌, ◌≤◌, ◌<◌, ℕ, List, [], ◌∷◌, length, map, slice_index_or, remove, AllPairs}
use Rattle.math_theory.specs.RootProducts.{root_product}
use Rattle.math_theory.specs.Sums.{weighted_sum}
use Rattle.math_theory.specs.Values.{value}

-- no two are same
abbrev pub AreApart : {A : Type 0} → (A → A → Type 0) → List A → Type 0
AreApart same xs = AllPairs (λ x y. ¬ (same x y)) xs

-- some two are same
abbrev pub SomeAreSame : {A : Type 0} → (A → A → Type 0) → List A → Type 0
SomeAreSame {A} same xs = (i : ℕ) × (j : ℕ) × (d : A) × (i < j) × (j < length xs) × same (slice_index_or xs i d) (slice_index_or xs j d)

-- item k is same as x, and no item before it is
abbrev pub IsFirstPlace : {A : Type 0} → (A → A → Type 0) → A → List A → ℕ → Type 0
IsFirstPlace same x xs k = (k < length xs) × same (slice_index_or xs k x) x × ((i : ℕ) → i < k → ¬ (same (slice_index_or xs i x) x))

-- item k is same as one, and every other item is same as zero
abbrev pub IsOneAt : {A : Type 0} → (A → A → Type 0) → A → A → ℕ → List A → Type 0
IsOneAt same zero one k xs = same (slice_index_or xs k zero) one × ((i : ℕ) → i < length xs → i ≢ k → same (slice_index_or xs i zero) zero)

-- the values of a at the points
abbrev pub values_at : {A : Type 0} → A → (A → A → A) → (A → A → A) → A → List A → List A → List A
values_at zero sum product one points a = map (λ p. value zero sum product one p a) points

-- for every list of at most as many coefficients as points, the sum of its values at the points, each times its weight, is same as its value at x
pub record AreWeightsAt {A : Type 0} (same : A → A → Type 0) (zero : A) (sum : A → A → A) (product : A → A → A) (one : A)
    (x : A) (points weights : List A) : Type 0 where
  pub lengths : length points ≡ length weights
  pub give : (a : List A) → length a ≤ length points
      → same (weighted_sum zero sum product (values_at zero sum product one points a) weights) (value zero sum product one x a)

-- the product of (x - y) / (p - y) over the other points y
abbrev pub lagrange_weight : {A : Type 0} → (A → A → A) → (A → A) → (A → A → A) → A → (A → A) → A → A → List A → A
lagrange_weight sum negative product one inverse x p [] = one
lagrange_weight sum negative product one inverse x p (y ∷ others) =
    product (product (sum x (negative y)) (inverse (sum p (negative y)))) (lagrange_weight sum negative product one inverse x p others)

-- weight i is the product of (x - y) / (p - y), where p is point i and y goes over the other points
abbrev pub lagrange_weights : {A : Type 0} → A → (A → A → A) → (A → A) → (A → A → A) → A → (A → A) → A → List A → List A
lagrange_weights zero sum negative product one inverse x points =
    map (λ i. lagrange_weight sum negative product one inverse x (slice_index_or points i zero) (remove points i)) (range_with_len 0 (length points))

-- x - p times the product of p - y over the other points y, where p is point i; divided by it, the product of x - y over all points y is weight i
abbrev pub weight_divisor : {A : Type 0} → A → (A → A → A) → (A → A) → (A → A → A) → A → A → List A → ℕ → A
weight_divisor zero sum negative product one x points i =
    product (sum x (negative (slice_index_or points i zero))) (root_product sum negative product one (slice_index_or points i zero) (remove points i))
