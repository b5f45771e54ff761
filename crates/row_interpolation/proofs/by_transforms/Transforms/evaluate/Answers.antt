use Rattle.std.proofs.Common.{◌+◌, ◌*◌, ◌<◌, ◌^◌, subst}
use Rattle.std.specs.List.{All}
use Rattle.math_theory.specs.BitReversal.{bit_reversed}
use Rattle.math_fields.specs.Elements.{residue, same}
use Rattle.math_transforms.specs.DomainValues.{matrix_of}
use Rattle.math_transforms.specs.Matrices.{column_of}
use Rattle.math_restoring.specs.Restored.{FitsAt, item}
use Rattle.math_restoring.specs.Restorers.{indices_of}
use Rattle.row_interpolation.specs.RowValues.{value_at_index}
use Rattle.row_interpolation.proofs.Transformed.{value-through}
use Rattle.row_interpolation.proofs.by_transforms.Transforms.evaluate.Goals as goal

pub returns : goal.returns
returns g c = λ i k l m.
    let t = c.args.self.now in
    let element = g.R.ElementRows.element c.args.rows.now in
    let cols = c.args.cols in
    let indices = indices_of t.restorer in
    let x = item c.evaluate_few.new.cells (bit_reversed t.lg i * cols + k) in
    let q = column_of (residue 0) (matrix_of (2 ^ t.part) cols c.restore.new.room) k in
    let restored = c.restore.ensures (λ s j. element s (c.args.from + j)) c.place_rows.ensures k m in
    let fit : FitsAt t.lg indices (λ s. element s (c.args.from + k)) q = rw (t.rows_in_room, t.rows_of_coefficients) at restored in
    let value : same x (value_at_index t.lg q i) = c.in-Ok.ensures.values i k l m in
    value-through t.lg i indices (λ s. element s (c.args.from + k)) q x t.domain
    (t.restorer.distinct, subst (λ n. All (λ j. j < 2 ^ n) indices) t.rows_in_room t.restorer.below) fit value
