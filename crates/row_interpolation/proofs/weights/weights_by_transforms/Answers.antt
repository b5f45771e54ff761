use Rattle.std.proofs.Common.{◌∙◌, ◌+◌, ◌++◌, ap, sym, subst, arith}
use Rattle.row_interpolation.specs.Weights.{AreWeightRows}
use Rattle.row_interpolation.proofs.IndexPoints.{domain_of}
use Rattle.row_interpolation.proofs.WeightedSums.{weights-more}
use Rattle.row_interpolation.proofs.weights.weights_by_transforms.Goals as goal

pub loop-j-preserved : goal.loop-j-preserved
loop-j-preserved c =
    let total = c.args.total in
    let (least, domain, _) = domain_of total c.requires.some (omega (arith, c.ranges.total.fits)) in
    let pushed = c.in_ok-extend_from_slice.ensures.items ∙ ap (λ xs. c.loop-j.out.items ++ xs) c.deref.ensures.value in
    subst (AreWeightRows total c.args.indices.now c.args.wanted.now (c.loop-j.j + 1)) (sym pushed)
    (weights-more total least c.loop-j.j c.args.indices.now c.args.wanted.now c.loop-j.out.items c.in_ok-row.row.items domain c.in_ok-row.ensures c.loop-j.invariant)
