-- Values of polynomials, given by the lists of their coefficients from the constant upwards, over explicit operations.
use Rattle.std.specs.Prelude.{ℕ, suc, List, [], ◌∷◌}
use Rattle.math_theory.specs.Powers.{power}

-- the sum of a_j scaled by r to the power i + j
abbrev pub value_from : {A B : Type 0} → A → (A → A → A) → (A → B → A) → B → (B → B → B) → B → ℕ → List A → A
value_from zero sum scaling one product r i [] = zero
value_from zero sum scaling one product r i (a ∷ rest) = sum (scaling a (power one product r i)) (value_from zero sum scaling one product r (suc i) rest)

-- the value at r: the sum of a_i scaled by r to the power i
abbrev pub value_over : {A B : Type 0} → A → (A → A → A) → (A → B → A) → B → (B → B → B) → B → List A → A
value_over zero sum scaling one product r a = value_from zero sum scaling one product r 0 a

-- the value at r over a ring: the sum of a_i times r to the power i
abbrev pub value : {A : Type 0} → A → (A → A → A) → (A → A → A) → A → A → List A → A
value zero sum product one r a = value_over zero sum product one product r a
