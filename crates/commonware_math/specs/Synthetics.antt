-- Linear combinations of free generators and points: the list of the terms (index, weight) by rising index, and the sum of the points, each scaled by its weight.
use Rattle.std.specs.Prelude.{◌≡◌, ◌<◌, ◌≤◌, ◌⊎◌, ◌↔◌, ◌++◌, ℕ, eqb, if◌then◌else◌, List, [], ◌∷◌, map, length}
use Rattle.std.specs.List.{range_with_len}
use Rattle.math_theory.specs.Sums.{weighted_sum}

-- the weight at index i: the sum of the weights of the terms at i, and zero where there is none
abbrev pub weight_at : {A : Type 0} → A → (A → A → A) → ℕ → List (ℕ × A) → A
weight_at zero sum i [] = zero
weight_at zero sum i (term ∷ terms) = if eqb i term.0 then sum term.1 (weight_at zero sum i terms) else weight_at zero sum i terms

-- a term stands at index i
abbrev pub HasTerm : {A : Type 0} → List (ℕ × A) → ℕ → Type 0
HasTerm [] i = ⊥
HasTerm (term ∷ terms) i = (i ≡ term.0) ⊎ HasTerm terms i

-- the index of each term is below those after it
abbrev pub IsRising : {A : Type 0} → List (ℕ × A) → Type 0
IsRising [] = Unit {0}
IsRising (term ∷ terms) = ((i : ℕ) → HasTerm terms i → term.0 < i) × IsRising terms

-- the indices rise, and are those that P holds of
pub record HasIndices {A : Type 0} (terms : List (ℕ × A)) (P : ℕ → Type 0) : Type 0 where
  pub rising : IsRising terms
  pub indices : (i : ℕ) → HasTerm terms i ↔ P i

-- i is the greatest index at which a term stands
pub record IsGreatestIndex {A : Type 0} (terms : List (ℕ × A)) (i : ℕ) : Type 0 where
  pub has : HasTerm terms i
  pub greatest : (j : ℕ) → HasTerm terms j → j ≤ i

-- one of the combinations has a term at index i
abbrev pub AnyHasTerm : {A B : Type 0} → List (List (ℕ × A) × B) → ℕ → Type 0
AnyHasTerm [] i = ⊥
AnyHasTerm (c ∷ combinations) i = HasTerm c.0 i ⊎ AnyHasTerm combinations i

-- the weights at each index are same
abbrev pub HaveSameWeights : {A : Type 0} → (A → A → Type 0) → A → (A → A → A) → List (ℕ × A) → List (ℕ × A) → Type 0
HaveSameWeights same zero sum a b = (i : ℕ) → same (weight_at zero sum i a) (weight_at zero sum i b)

-- the weights at each index are same, and the sums of the points are same
pub record AreSameCombinations {A B : Type 0} (same : A → A → Type 0) (zero : A) (sum : A → A → A) (same_point : B → B → Type 0) (c d : List (ℕ × A) × B) : Type 0 where
  pub weights : HaveSameWeights same zero sum c.0 d.0
  pub points : same_point c.1 d.1

-- f's answer at the weight in place of each weight
abbrev pub map_weights : {A : Type 0} → (A → A) → List (ℕ × A) → List (ℕ × A)
map_weights f terms = map (λ term. (term.0, f term.1)) terms

-- no free terms, and zero
abbrev pub combination_zero : {A B : Type 0} → B → List (ℕ × A) × B
combination_zero zero = ([], zero)

-- the terms of both, where the weights at one index add up, and the sum of the points of both
abbrev pub combination_sum : {A B : Type 0} → (B → B → B) → List (ℕ × A) × B → List (ℕ × A) × B → List (ℕ × A) × B
combination_sum sum c d = (c.0 ++ d.0, sum c.1 d.1)

-- the negative of each weight and of the sum of the points
abbrev pub combination_negative : {A B : Type 0} → (A → A) → (B → B) → List (ℕ × A) × B → List (ℕ × A) × B
combination_negative negative_weight negative c = (map_weights negative_weight c.0, negative c.1)

-- the sum of c and the negative of d
abbrev pub combination_difference : {A B : Type 0} → (A → A) → (B → B → B) → (B → B) → List (ℕ × A) × B → List (ℕ × A) × B → List (ℕ × A) × B
combination_difference negative_weight sum negative c d = combination_sum sum c (combination_negative negative_weight negative d)

-- each weight times x, and the sum of the points scaled by x
abbrev pub combination_multiple : {A B : Type 0} → (A → A → A) → (B → A → B) → List (ℕ × A) × B → A → List (ℕ × A) × B
combination_multiple product scaling c x = (map_weights (λ w. product w x) c.0, scaling c.1 x)

-- f respects same and sums
pub record IsAdditiveMap {A : Type 0} (same : A → A → Type 0) (sum : A → A → A) (f : A → A) : Type 0 where
  pub respects : (a b : A) → same a b → same (f a) (f b)
  pub of_sum : (a b : A) → same (f (sum a b)) (sum (f a) (f b))

-- additive maps of weights and of points, where a point scaled by a weight's image is the image of the scaled point
pub record IsMapOfCombinations {A B : Type 0} (same : A → A → Type 0) (sum : A → A → A) (same_point : B → B → Type 0) (sum_points : B → B → B) (scaling : B → A → B)
    (on_weights : A → A) (on_points : B → B) : Type 0 where
  pub weights : IsAdditiveMap same sum on_weights
  pub points : IsAdditiveMap same_point sum_points on_points
  pub scaled : (p : B) (w : A) → same_point (scaling p (on_weights w)) (on_points (scaling p w))

-- the sum of the points, each scaled by the weight beside it
abbrev pub concrete_sum : {A B : Type 0} → B → (B → B → B) → (B → A → B) → List (A × B) → B
concrete_sum zero sum scaling [] = zero
concrete_sum zero sum scaling (term ∷ terms) = sum (scaling term.1 term.0) (concrete_sum zero sum scaling terms)

-- the n weights from index i on
abbrev pub weights_from : {A : Type 0} → A → (A → A → A) → ℕ → ℕ → List (ℕ × A) → List A
weights_from zero sum i n terms = map (λ j. weight_at zero sum j terms) (range_with_len i n)

-- the sum of each generator scaled by the weight at its index
abbrev pub free_value : {A B : Type 0} → A → (A → A → A) → B → (B → B → B) → (B → A → B) → List B → List (ℕ × A) → B
free_value zero_weight sum_weights zero sum scaling generators terms = weighted_sum zero sum scaling generators (weights_from zero_weight sum_weights 0 (length generators) terms)

-- under the given generators: the sum of each generator scaled by the weight at its index, plus the sum of the points
abbrev pub value_under : {A B : Type 0} → A → (A → A → A) → B → (B → B → B) → (B → A → B) → List B → List (ℕ × A) × B → B
value_under zero_weight sum_weights zero sum scaling generators c = sum (free_value zero_weight sum_weights zero sum scaling generators c.0) c.1
