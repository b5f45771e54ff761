-- Shards that are made of the values of the polynomials of data.
use Rattle.std.proofs.Common.{◌≡◌, ℕ, ◌*◌, ◌<◌, ◌^◌, List, length, get_or, sym, ◌∙◌, ap, ap₂, arith}
use Rattle.std.specs.Int.{IsNextPowerOfTwo}
use Rattle.math_fields.specs.declared.goldilocks.F.{F}
use Rattle.math_fields.specs.Elements.{number, same}
use Rattle.math_transforms.specs.Matrices.{IsOfSize, MatrixOf, cell_of, column_of, row_of}
use Rattle.math_ntt.specs.PolynomialRows.{HaveSamePolynomials}
use Rattle.math_ntt.proofs.MatrixPlaces.{rows_are_full, rows_hold_cells}
use Rattle.math_ntt.proofs.PaddedPolynomials.{next_power_of_two-once}
use Rattle.math_splitting.specs.declared.shards.Shard.{Shard}
use Rattle.math_splitting.specs.Shards.{IsShardOf, rows_for, value_at_index, width_for}
use Rattle.math_splitting.proofs.SameCells.{nought}
use Rattle.math_values.proofs.ElementValues.{same_values}

-- the cell of v in row j and column k is the value, at power j of the root, of column k of p
abbrev pub HoldsValues : MatrixOf F → MatrixOf F → Type 0
HoldsValues p v = (lg : ℕ) → p.rows ≡ 2 ^ lg → (j k : ℕ) → j < p.rows → k < p.cols → same (cell_of nought v j k) (value_at_index lg (column_of nought p k) j)

-- row i of the values of the polynomials of data is shard i of the data
pub shard_of_row : (words : List ℕ) (min total : ℕ) (p v : MatrixOf F) → IsNextPowerOfTwo total p.rows → p.cols ≡ width_for min words → HaveSamePolynomials same nought p (rows_for min words)
    → IsOfSize v p.rows p.cols → HoldsValues p v → (s : Shard) → s.index < total → s.min ≡ min → s.total ≡ total → s.cells.items ≡ row_of v s.index → IsShardOf words min total s
shard_of_row words min total p v next wide of_data size values s below least most cells =
    let inside : s.index < v.rows = omega (arith, below, next.1, size.0) in
    record {
      index = below;
      least = least;
      most = most;
      count = ap length cells ∙ rows_are_full v s.index (size.2 ∙ sym (ap₂ (λ x y. x * y) size.0 size.1)) inside ∙ size.1 ∙ wide;
      values = λ lg k domain b.
          let rows : p.rows ≡ 2 ^ lg = next_power_of_two-once total p.rows (2 ^ lg) next domain in
          let column : k < p.cols = omega (arith, b, wide) in
          ap (λ xs. number (get_or xs k nought)) cells
          ∙ ap number (rows_hold_cells v s.index k nought (omega (arith, column, size.1)))
          ∙ values lg rows s.index k (omega (arith, below, next.1)) column
          ∙ same_values _ (column_of nought p k) (column_of nought (rows_for min words) k) (of_data k b);
    }
