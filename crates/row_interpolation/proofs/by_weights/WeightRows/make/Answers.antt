use Rattle.std.proofs.Common.{◌*◌, ◌≤◌, ◌≡◌, ℕ, List, length, subst, arith}
use Rattle.math_fields.specs.declared.goldilocks.F.{F}
use Rattle.row_interpolation.specs.Sums.{AreRowSums, AreSums}
use Rattle.row_interpolation.proofs.WeightedSums.{made-by_rows, made-by_weights}
use Rattle.row_interpolation.proofs.by_weights.WeightRows.make.Goals as goal

pub returns-then-sums_columns_at_once : goal.returns-then-sums_columns_at_once
returns-then-sums_columns_at_once g c = λ total indices targets W.
    let w = c.args.self.now in
    let weights : List F = w.weights.items in
    let strip : List F = c.read_rows.new.strip in
    let out : List F = c.write_row_sums.new.out in
    made-by_rows (g.R.ElementRows.element c.args.rows.now) total c.args.from c.args.cols w.count indices targets weights strip out W.count W.weights c.read_rows.ensures
    (subst (λ m. AreRowSums w.count c.args.cols strip weights m out) W.many c.write_row_sums.ensures)

pub returns : goal.returns
returns g c = λ total indices targets W.
    let w = c.args.self.now in
    let cols : ℕ = c.args.cols in
    let weights : List F = w.weights.items in
    let columns : List F = c.gather_columns.new.columns in
    let out : List F = c.write_sums.new.out in
    let turned : w.count * cols ≡ cols * w.count = grind arith in
    let room : cols * w.count ≤ length columns = omega (arith, turned, c.requires.rest, c.gather_columns.auto.columns) in
    made-by_weights (g.R.ElementRows.element c.args.rows.now) total c.args.from cols w.count indices targets weights columns out W.count W.weights room c.gather_columns.ensures
    (subst (λ m. AreSums w.count cols columns weights m out) W.many c.write_sums.ensures)
