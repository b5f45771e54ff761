use Rattle.std.proofs.Common.{◌∙◌, ap}
use Rattle.std.proofs.lemmas.List.{get_or_default}
use Rattle.math_fields.specs.Elements.{negative, residue, sum}
use Rattle.math_fields.proofs.ElementNumbers.{same_number}
use Rattle.row_interpolation.proofs.Differences.{differences-all, differences-more, differences-none}
use Rattle.row_interpolation.proofs.weights.product_of_differences.Goals as goal

pub loop-p-init : goal.loop-p-init
loop-p-init c = differences-none c.args.x c.from-out.result c.args.points.now (same_number _ _ c.from-out.ensures)

pub loop-p-preserved : goal.loop-p-preserved
loop-p-preserved c =
    let points = c.args.points.now in
    let i = c.loop-p.p-index in
    let p = c.p-item.result in
    differences-more c.args.x c.loop-p.out c.mul-out.result c.difference.result points i c.loop-p-test.true
    (same_number _ _ c.difference.ensures ∙ ap (λ y. sum c.args.x (negative y)) (c.p-item.is ∙ get_or_default points i p (residue 0) c.loop-p-test.true))
    (same_number _ _ c.mul-out.ensures) c.loop-p.invariant

pub returns : goal.returns
returns c = differences-all c.args.x c.loop-p.out c.args.points.now c.loop-p.p-index c.loop-p-test.false c.loop-p.invariant
