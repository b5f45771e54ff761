use Rattle.std.proofs.Common.{◌≡◌, ◌∙◌, ◌*◌, length, take, drop, ap, arith}
use Rattle.math_theory.specs.Sums.{weighted_sum}
use Rattle.math_fields.specs.Elements.{product, residue, sum}
use Rattle.math_transforms.proofs.WrittenRows.{written-done}
use Rattle.row_interpolation.specs.Weights.{part_of}
use Rattle.row_interpolation.proofs.WeightedSums.{turn}
use Rattle.row_interpolation.proofs.by_weights.write_sums_of.Goals as goal

pub loop-c-preserved : goal.loop-c-preserved
loop-c-preserved c =
    let k = c.loop-c.c in
    let columns = c.args.columns.now in
    let weights = c.args.weights.now in
    let n = length weights in
    written-done (residue 0) (λ i y. y ≡ weighted_sum (residue 0) sum product (part_of n columns i) weights) c.loop-c.out c.loop-c.out k c.sum_of_products.result (omega arith) c.loop-c.invariant
    (c.sum_of_products.ensures ∙ ap (λ m. weighted_sum (residue 0) sum product (take m (drop (k * n) columns)) weights) (turn k n))
