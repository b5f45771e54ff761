use Rattle.std.proofs.Common.{◌≡◌, ◌<◌, ℕ, length}
use Rattle.math_theory.specs.Sums.{weighted_sum}
use Rattle.math_fields.specs.Elements.{product, residue, sum}
use Rattle.math_restoring.specs.Restored.{item}
use Rattle.row_interpolation.specs.Weights.{part_of}
use Rattle.row_interpolation.proofs.by_weights.write_sums_of.Given as goal

-- the sums so far
abbrev pub invariant-loop-c : goal.invariant-loop-c
invariant-loop-c l = (i : ℕ) → i < l.c → item l.out i ≡ weighted_sum (residue 0) sum product (part_of (length l.weights) l.columns i) l.weights
