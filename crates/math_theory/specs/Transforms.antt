-- The transform of 2 ^ lg coefficients into values at the powers of a root, by halves, and the way back.
use Rattle.std.specs.Prelude.{ℕ, zero, suc, ◌^◌, List, ◌++◌, take, drop}
use Rattle.math_theory.specs.Coefficients.{polynomial_sum, polynomial_difference, polynomial_dilation}

-- the sums a + b, place by place, and then the differences a - b
abbrev pub sums_and_differences : {A : Type 0} → (A → A → A) → (A → A) → List A → List A → List A
sums_and_differences sum negative a b = polynomial_sum sum a b ++ polynomial_difference sum negative a b

-- both halves are transformed at w squared; then item i of the second, times w to the power i, is added to item i of the first, and subtracted from it
abbrev pub transform : {A : Type 0} → (A → A → A) → (A → A) → (A → A → A) → A → ℕ → A → List A → List A
transform sum negative product one zero w cells = cells
transform sum negative product one (suc lg) w cells =
    sums_and_differences sum negative
    (transform sum negative product one lg (product w w) (take (2 ^ lg) cells))
    (polynomial_dilation product one product w (transform sum negative product one lg (product w w) (drop (2 ^ lg) cells)))

-- the sums of both halves, and their differences, item i times w to the power i, are each taken back at w squared
abbrev pub inverse_transform : {A : Type 0} → (A → A → A) → (A → A) → (A → A → A) → A → ℕ → A → List A → List A
inverse_transform sum negative product one zero w cells = cells
inverse_transform sum negative product one (suc lg) w cells =
    inverse_transform sum negative product one lg (product w w) (polynomial_sum sum (take (2 ^ lg) cells) (drop (2 ^ lg) cells))
    ++ inverse_transform sum negative product one lg (product w w)
    (polynomial_dilation product one product w (polynomial_difference sum negative (take (2 ^ lg) cells) (drop (2 ^ lg) cells)))
