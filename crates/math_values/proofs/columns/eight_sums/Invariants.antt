use Rattle.std.proofs.Common.{◌≡◌, ◌+◌, ◌%◌, ◌<◌, ℕ, List, length, drop, get_or}
use Rattle.math_numbers.specs.Goldilocks.{P}
use Rattle.math_theory.specs.Sums.{weighted_sum}
use Rattle.math_fields.specs.declared.goldilocks.F.{F}
use Rattle.math_values.specs.ColumnSums.{ArePartsOf, IsColumnAt, from_parts}
use Rattle.math_fields.specs.Elements.{number, product, residue, sum}
use Rattle.math_values.proofs.columns.eight_sums.Given as goal

-- the sums so far, and the products that are left
abbrev pub invariant-loop-r : goal.invariant-loop-r
invariant-loop-r l = record {
  few : (j : ℕ) → j < 8 → ArePartsOf l.r (get_or l.a j 0) (get_or l.b j 0) (get_or l.c j 0) (get_or l.d j 0);
  sums : (column : List F) (j : ℕ) → j < 8 → length column ≡ length l.weights → IsColumnAt l.rows l.cols (l.i + j) column
      → (from_parts (get_or l.a j 0) (get_or l.b j 0) (get_or l.c j 0) (get_or l.d j 0) + number (weighted_sum (residue 0) sum product (drop l.r column) (drop l.r l.weights))) % P
      ≡ number (weighted_sum (residue 0) sum product column l.weights);
}
