-- Coefficients by weights: their polynomials have the cells of the rows as their values.
use Rattle.std.proofs.Common.{◌≡◌, ◌∙◌, ℕ, ◌*◌, ◌<◌, List, [], length, map, get_or, sym, ap, arith}
use Rattle.std.proofs.lemmas.List.{ext_get_or, get_or-map, length-map}
use Rattle.math_theory.specs.Powers.{power}
use Rattle.math_theory.specs.Sums.{weighted_sum}
use Rattle.math_fields.specs.declared.goldilocks.F.{F}
use Rattle.math_fields.specs.Elements.{number, product, residue, root_of, sum}
use Rattle.math_fields.proofs.ElementNumbers.{same_number}
use Rattle.math_ntt.proofs.MatrixPlaces.{columns_are_full, rows_are_full, rows_are_listed}
use Rattle.math_transforms.specs.DomainValues.{matrix_of}
use Rattle.math_transforms.specs.Matrices.{row_of, rows_of}
use Rattle.math_transforms.proofs.MatrixRows.{cell-of_column, length-pieces}
use Rattle.math_values.proofs.ElementRing.{elements}
use Rattle.math_restoring.specs.Restored.{HaveCellsAsValues}
use Rattle.math_splitting.specs.Shards.{value_at_index}
use Rattle.math_shards.specs.Weights.{AreCoefficients, AreWeightsOf, square}
use Rattle.math_splitting.proofs.SameCells.{nought}
use Rattle.math_shards.proofs.PutCoefficients.{column_in}
use Rattle.math_shards.proofs.WeightedColumns.{HaveLength, value-at_place}

module _ (lg width : ℕ) (indices : List ℕ) (weights old new : List F) (size : length old ≡ length indices * width) (w : AreWeightsOf lg indices weights)
    (c : AreCoefficients weights (length indices) width old new) where
  -- the rows of weights, as many as there are indices
  abbrev weight_rows : List (List F)
  weight_rows = rows_of (square indices weights)

  count_rows : length weight_rows ≡ length indices
  count_rows = length-pieces (length indices) (length indices) weights

  row_at : (r : ℕ) → r < length indices → get_or weight_rows r [] ≡ row_of (square indices weights) r
  row_at r l = rows_are_listed (square indices weights) r [] l

  tall : (cells : List F) (k : ℕ) → length (column_in (length indices) width cells k) ≡ length indices
  tall cells k = columns_are_full (matrix_of (length indices) width cells) k nought

  rows_long : (k : ℕ) → HaveLength (length (column_in (length indices) width old k)) weight_rows
  rows_long k r l =
      let inside : r < length indices = omega (arith, l, count_rows) in
      ap length (row_at r inside) ∙ rows_are_full (square indices weights) r w.size inside ∙ sym (tall old k)

  -- the sum of the old cells of column k, each times its weight in a row
  abbrev weighed : ℕ → List F → F
  weighed k row = weighted_sum nought sum product (column_in (length indices) width old k) row

  -- the coefficients of column k are the weighted sums by these rows
  column_is : (k : ℕ) → k < width → column_in (length indices) width new k ≡ map (weighed k) weight_rows
  column_is k l =
      let long : length (map (weighed k) weight_rows) ≡ length indices = length-map weight_rows (weighed k) ∙ count_rows in
      ext_get_or nought (column_in (length indices) width new k) (map (weighed k) weight_rows) (tall new k ∙ sym long)
      (λ r b. let inside : r < length indices = omega (arith, b, tall new k) in
      cell-of_column nought (matrix_of (length indices) width new) k r l c.size ∙ c.each r k inside l ∙ ap (weighed k) (sym (row_at r inside))
      ∙ sym (get_or-map (weighed k) weight_rows r [] nought (omega (arith, inside, count_rows))))

  -- so the old cells are the values of the polynomials whose coefficients are the columns of the new ones
  pub values_of_weighed : HaveCellsAsValues lg indices width old new
  values_of_weighed t k b l =
      let i = get_or indices t 0 in
      let xs : List F = column_in (length indices) width old k in
      let x : F = power (residue 1) product (root_of lg) i in
      ap (λ p. number (value_at_index lg p i)) (column_is k l)
      ∙ ap number (
      value-at_place elements x xs weight_rows t (rows_long k) (omega (arith, b, tall old k)) (same_number _ _ (w.one_at t b))
      (λ j m apart. same_number _ _ (w.zero_at j t (omega (arith, m, tall old k)) b apart))
      ∙ cell-of_column nought (matrix_of (length indices) width old) k t l size
      )
