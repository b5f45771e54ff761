-- The place of a row among cells.
use Rattle.std.proofs.Common.{◌≡◌, ℕ, ◌+◌, ◌*◌, ◌<◌, ◌≤◌, arith}
use Rattle.math_transforms.proofs.WrittenCells.{row-within}

-- the row of an index below the number of rows is within the cells
pub row_fits : (n c i k : ℕ) → k ≡ n * c → i < n → (i + 1) * c ≤ k
row_fits n c i k e l = omega (arith, e, row-within i n c l)
