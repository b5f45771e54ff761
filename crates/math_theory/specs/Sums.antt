-- Sums over lists, and numbers that limbs write.
use Rattle.std.specs.Prelude.{ℕ, ◌+◌, ◌*◌, ◌^◌, List, [], ◌∷◌}

-- the sum of point i scaled by scalar i, over the shorter of both lists
abbrev pub weighted_sum : {A B : Type 0} → A → (A → A → A) → (A → B → A) → List A → List B → A
weighted_sum zero sum scaling [] scalars = zero
weighted_sum zero sum scaling (p ∷ points) [] = zero
weighted_sum zero sum scaling (p ∷ points) (s ∷ scalars) = sum (scaling p s) (weighted_sum zero sum scaling points scalars)

-- the sum of all elements of a list
abbrev pub total : {A : Type 0} → A → (A → A → A) → List A → A
total zero sum [] = zero
total zero sum (a ∷ rest) = sum a (total zero sum rest)

-- the number that 64-bit limbs write, the lowest limb first: the sum of limb i times 2^(64 i)
abbrev pub number_of_limbs : List ℕ → ℕ
number_of_limbs [] = 0
number_of_limbs (limb ∷ limbs) = limb + 2 ^ 64 * number_of_limbs limbs
