use Rattle.std.proofs.Common.{◌≡◌, ◌∙◌, List, length, refl, sym, ap, arith}
use Rattle.math_theory.specs.Sums.{weighted_sum}
use Rattle.math_fields.specs.declared.goldilocks.F.{F}
use Rattle.math_fields.specs.Elements.{product, sum}
use Rattle.math_transforms.specs.DomainValues.{matrix_of}
use Rattle.math_transforms.specs.Matrices.{column_of}
use Rattle.math_transforms.proofs.MatrixRows.{cell-of_column, length-column}
use Rattle.math_transforms.proofs.WrittenRows.{written-done}
use Rattle.math_splitting.proofs.PointValues.{weighted-value}
use Rattle.math_splitting.proofs.SameCells.{nought}
use Rattle.math_splitting.proofs.shards.few_points.write_values_at.Goals as goal

pub loop-k-preserved : goal.loop-k-preserved
loop-k-preserved c =
    let k = c.loop-k.k in
    let powers = c.args.powers.now in
    let m = matrix_of (length c.args.column.now) (length c.args.out.now) c.args.rows.now in
    let sum_of : List F → F = λ column. weighted_sum nought sum product column powers in
    let is : c.copy_column.new.column ≡ column_of nought m k = c.copy_column.ensures ∙ ap (λ n. column_of nought (matrix_of n (length c.args.out.now) c.args.rows.now) k) c.loop-k.auto.column in
    written-done nought (λ j y. y ≡ sum_of (column_of nought m j)) c.loop-k.out c.loop-k.out k c.sum_of_products.result (omega arith) c.loop-k.invariant (c.sum_of_products.ensures ∙ ap sum_of is)

pub returns-then-sums_columns_at_once : goal.returns-then-sums_columns_at_once
returns-then-sums_columns_at_once c = λ lg i powers. record {
  count = c.sum_columns.auto.out;
  values = λ j l.
      let m = matrix_of (length c.args.column.now) (length c.args.out.now) c.args.rows.now in
      let column = column_of nought m j in
      let long : length column ≡ length c.args.powers.now = length-column nought m j ∙ sym c.requires.powers in
      c.sum_columns.ensures j column l long (λ r b. cell-of_column nought m j r l c.requires.size)
      ∙ weighted-value lg i _ column c.args.powers.now refl (omega (arith, long)) powers;
}

pub returns : goal.returns
returns c = λ lg i powers. record {
  count = c.loop-k.auto.out;
  values = λ j l.
      let column = column_of nought (matrix_of (length c.args.column.now) (length c.args.out.now) c.args.rows.now) j in
      c.loop-k.invariant j (omega (arith, l))
      ∙ weighted-value lg i _ column c.args.powers.now refl (omega (arith, length-column nought (matrix_of (length c.args.column.now) (length c.args.out.now) c.args.rows.now) j, c.requires.powers)) powers;
}
