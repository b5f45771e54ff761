-- Sums of columns by weights.
use Rattle.std.specs.Prelude.{◌≡◌, ℕ, ◌+◌, ◌*◌, ◌<◌, List, length}
use Rattle.math_theory.specs.Sums.{weighted_sum}
use Rattle.math_fields.specs.declared.goldilocks.F.{F}
use Rattle.math_fields.specs.Elements.{residue, sum, product}
use Rattle.math_values.specs.ColumnSums.{IsColumnAt}
use Rattle.math_restoring.specs.Restored.{item}
use Rattle.row_interpolation.specs.Weights.{part_of}

-- the elements of the first n of `count` rows, in `cols` columns from column `from` on, stand in a list column after column
abbrev pub AreGathered : (ℕ → ℕ → F) → ℕ → ℕ → ℕ → ℕ → List F → Type 0
AreGathered element count from cols n columns = (c t : ℕ) → c < cols → t < n → item columns (c * count + t) ≡ element t (from + c)

-- item j * cols + c, in the first m rows of items, is the sum of the n items of column c, each times its weight in row j of the weights
abbrev pub AreSums : ℕ → ℕ → List F → List F → ℕ → List F → Type 0
AreSums n cols columns weights m out =
    (j c : ℕ) → j < m → c < cols → item out (j * cols + c) ≡ weighted_sum (residue 0) sum product (part_of n columns c) (part_of n weights j)

-- the elements of the first n rows in `cols` columns, from column `from` on, stand in a list row after row
abbrev pub AreRead : (ℕ → ℕ → F) → ℕ → ℕ → ℕ → List F → Type 0
AreRead element from cols n strip = (t c : ℕ) → t < n → c < cols → item strip (t * cols + c) ≡ element t (from + c)

-- item j * cols + c, in the first m rows of items, is the sum of the n items in column c of other rows of `cols` items, each times its weight in row j of the weights
abbrev pub AreRowSums : ℕ → ℕ → List F → List F → ℕ → List F → Type 0
AreRowSums n cols rows weights m out =
    (j c : ℕ) → j < m → c < cols → (column : List F) → length column ≡ n → IsColumnAt rows cols c column
    → item out (j * cols + c) ≡ weighted_sum (residue 0) sum product column (part_of n weights j)
