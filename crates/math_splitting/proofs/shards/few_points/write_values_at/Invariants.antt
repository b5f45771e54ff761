use Rattle.std.proofs.Common.{◌≡◌, ◌<◌, ℕ, get_or, length}
use Rattle.math_theory.specs.Sums.{weighted_sum}
use Rattle.math_fields.specs.Elements.{product, sum}
use Rattle.math_transforms.specs.DomainValues.{matrix_of}
use Rattle.math_transforms.specs.Matrices.{column_of}
use Rattle.math_splitting.proofs.SameCells.{nought}
use Rattle.math_splitting.proofs.shards.few_points.write_values_at.Given as goal

-- the sums of the columns so far
abbrev pub invariant-loop-k : goal.invariant-loop-k
invariant-loop-k l =
    (j : ℕ) → j < l.k → get_or l.out j nought ≡ weighted_sum nought sum product (column_of nought (matrix_of (length l.initial.column) l.cols l.rows) j) l.powers
