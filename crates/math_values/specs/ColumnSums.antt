-- Sums of the cells of columns, each cell times the weight of its row.
use Rattle.std.specs.Prelude.{◌≡◌, ℕ, ◌+◌, ◌*◌, ◌^◌, ◌<◌, ◌≤◌, List, length, slice_index_or}
use Rattle.math_theory.specs.Sums.{weighted_sum}
use Rattle.math_fields.specs.declared.goldilocks.F.{F}
use Rattle.math_fields.specs.Elements.{product, residue, sum}

-- the list has the cells in column j of the first rows of c cells
abbrev pub IsColumnAt : List F → ℕ → ℕ → List F → Type 0
IsColumnAt rows c j column = (i : ℕ) → i < length column → slice_index_or column i (residue 0) ≡ slice_index_or rows (i * c + j) (residue 0)

-- each of the first n items is the sum of the cells in its column of rows of c cells, each times the weight of its row
abbrev pub AreColumnSums : List F → ℕ → List F → ℕ → List F → Type 0
AreColumnSums rows c weights n out =
    (j : ℕ) (column : List F) → j < n → length column ≡ length weights → IsColumnAt rows c j column → slice_index_or out j (residue 0) ≡ weighted_sum (residue 0) sum product column weights

-- a + 2^32 b + 2^64 c + 2^96 d
abbrev pub from_parts : ℕ → ℕ → ℕ → ℕ → ℕ
from_parts a b c d = a + 2 ^ 32 * b + 2 ^ 64 * c + 2 ^ 96 * d

-- each of four parts is at most n times 2^34
abbrev pub ArePartsOf : ℕ → ℕ → ℕ → ℕ → ℕ → Type 0
ArePartsOf n a b c d = (a ≤ n * 2 ^ 34) × (b ≤ n * 2 ^ 34) × (c ≤ n * 2 ^ 34) × (d ≤ n * 2 ^ 34)
