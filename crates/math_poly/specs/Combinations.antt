-- Linear combinations of values of polynomials.
use Rattle.std.specs.Prelude.{List, [], ◌∷◌}
use Rattle.math_theory.specs.Values.{value_over}
use Rattle.math_base.specs.Members.{RingOf, SpaceOf}

-- over explicit operations, the sum over the pairs (weight, point) of the value at the point scaled by the weight
abbrev pub combination_over : {A B : Type 0} → A → (A → A → A) → (A → B → A) → B → (B → B → B) → List A → List (B × B) → A
combination_over zero sum scaling one product a [] = zero
combination_over zero sum scaling one product a (pair ∷ pairs) = sum (scaling (value_over zero sum scaling one product pair.1 a) pair.0) (combination_over zero sum scaling one product a pairs)

-- the sum over the pairs (weight, point) of the value at the point scaled by the weight
abbrev pub combination_of_values : {A B : Type 0} → SpaceOf A B → RingOf B → List A → List (B × B) → A
combination_of_values S R a pairs = combination_over S.zero S.sum S.scaling R.one R.product a pairs
