use Rattle.std.proofs.Common.{◌≡◌, ◌++◌, arith}
use Rattle.std.proofs.lemmas.List.{length-append}
use Rattle.math_theory.specs.Sums.{weighted_sum}
use Rattle.math_transforms.specs.Matrices.{row_of, column_of}
use Rattle.math_transforms.proofs.MatrixRows.{each-cell-next}
use Rattle.math_ntt.proofs.ntt.matrix.Matrix.mul.Goals as goal

pub loop-i-preserved : goal.loop-i-preserved
loop-i-preserved g c =
    let zero = g.F.Additive.zero in
    let old = c.loop-i.cells.items in
    let row = c.in_ok-row.row.items in
    let width = c.args.other.now.cols in
    let count = c.loop-i.invariant.count in
    let appended : c.append.new.self.items ≡ old ++ row = c.in_ok-append.ensures.items in
    rw appended record {
      count = rw (length-append old row, count, c.in_ok-row.ensures.count) (omega arith);
      cells = each-cell-next zero (λ i k cell. g.F.Object.same cell (weighted_sum zero g.F.Additive.sum g.F.Multiplicative.product (row_of c.args.self.now i) (column_of zero c.args.other.now k)))
          width c.loop-i.i old row count c.in_ok-row.ensures.count c.loop-i.invariant.cells (rw c.row.ensures.row at c.in_ok-row.ensures.cells);
    }
