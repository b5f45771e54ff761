use Rattle.std.proofs.Common.{◌≡◌, ◌<◌, ℕ, get_or, length}
use Rattle.math_transforms.specs.DomainValues.{matrix_of}
use Rattle.math_transforms.specs.Matrices.{column_of}
use Rattle.math_splitting.proofs.SameCells.{nought}
use Rattle.math_splitting.proofs.shards.few_points.copy_column.Given as goal

-- the first items of the column
abbrev pub invariant-loop-r : goal.invariant-loop-r
invariant-loop-r l = (j : ℕ) → j < l.r → get_or l.column j nought ≡ get_or (column_of nought (matrix_of (length l.initial.column) l.cols l.rows) l.k) j nought
