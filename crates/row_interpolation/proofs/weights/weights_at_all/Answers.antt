use Rattle.std.proofs.Common.{◌≡◌, ◌∙◌, ◌+◌, ◌++◌, List, length, ap, sym, subst, arith}
use Rattle.math_fields.specs.declared.goldilocks.F.{F}
use Rattle.row_interpolation.specs.Weights.{AreWeightRows}
use Rattle.row_interpolation.proofs.Differences.{weights-wanted}
use Rattle.row_interpolation.proofs.WeightedSums.{weights-more, weights-none}
use Rattle.row_interpolation.proofs.weights.weights_at_all.Goals as goal

pub loop-j-init : goal.loop-j-init
loop-j-init c = λ total indices P W. weights-none total indices c.args.wanted.now c.new-out.result.items (ap length c.new-out.ensures.items)

pub loop-j-preserved : goal.loop-j-preserved
loop-j-preserved c = λ total indices P W.
    let wanted = c.args.wanted.now in
    let j = c.loop-j.j in
    let row : List F = c.in_ok-row.row.items in
    let pushed = c.in_ok-extend_from_slice.ensures.items ∙ ap (λ (xs : List F). c.loop-j.out.items ++ xs) c.deref.ensures.value in
    subst (AreWeightRows total indices wanted (j + 1)) (sym pushed)
    (weights-more total c.args.lg j indices wanted c.loop-j.out.items row P.domain
    (λ lg next. weights-wanted total c.args.lg lg j indices wanted c.args.points.now c.args.own.now row c.point_of.result c.requires.small P W c.loop-j-test.true c.point_of.ensures c.in_ok-row.ensures next)
    (c.loop-j.invariant total indices P W))

pub returns : goal.returns
returns c = λ total indices P W.
    let wanted = c.args.wanted.now in
    let all : c.loop-j.j ≡ length wanted = omega (arith, c.loop-j-test.false, c.loop-j.auto.j-end) in
    subst (λ n. AreWeightRows total indices wanted n c.loop-j.out.items) all (c.loop-j.invariant total indices P W)
