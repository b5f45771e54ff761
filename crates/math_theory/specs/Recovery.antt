-- Columns of cells at the powers of a root, some of which are filled, and the coefficients that fit the filled ones.
use Rattle.std.specs.Prelude.{◌≡◌, ◌<◌, ◌≤◌, ℕ, List, [], ◌∷◌, Bool, true, false, length, slice_index_or, count_by}
use Rattle.std.specs.List.{range_with_len}
use Rattle.math_theory.specs.Coefficients.{coefficient}
use Rattle.math_theory.specs.Powers.{power}
use Rattle.math_theory.specs.Values.{value}

-- how many places are true
abbrev pub count_true : List Bool → ℕ
count_true filled = count_by (λ b. b) filled

-- the items at the true places
abbrev pub filled_items : {A : Type 0} → List A → List Bool → List A
filled_items [] filled = []
filled_items (x ∷ xs) [] = []
filled_items (x ∷ xs) (true ∷ filled) = x ∷ filled_items xs filled
filled_items (x ∷ xs) (false ∷ filled) = filled_items xs filled

-- the items at the false places
abbrev pub missing_items : {A : Type 0} → List A → List Bool → List A
missing_items [] filled = []
missing_items (x ∷ xs) [] = []
missing_items (x ∷ xs) (true ∷ filled) = missing_items xs filled
missing_items (x ∷ xs) (false ∷ filled) = x ∷ missing_items xs filled

-- q has cell j as its value at the power j of w for each filled j, and its coefficients from the number of filled places on are zero
pub record Fits {A : Type 0} (same : A → A → Type 0) (zero : A) (sum : A → A → A) (product : A → A → A) (one : A)
    (w : A) (cells : List A) (filled : List Bool) (q : List A) : Type 0 where
  pub agrees : (j : ℕ) → j < length cells → slice_index_or filled j false ≡ true
      → same (value zero sum product one (power one product w j) q) (slice_index_or cells j zero)
  pub zero_from : (i : ℕ) → count_true filled ≤ i → same (coefficient zero q i) zero

-- the indices of the true places, in rising order
abbrev pub filled_places : List Bool → List ℕ
filled_places filled = filled_items (range_with_len 0 (length filled)) filled
