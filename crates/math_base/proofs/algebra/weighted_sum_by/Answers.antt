use Rattle.std.proofs.Common.{◌≡◌, length, ◌⊎◌, inl, inr}
use Rattle.math_base.proofs.WeightedSums.{weighted_sum-start, weighted_sum-step, weighted_sum-end}
use Rattle.math_base.proofs.algebra.weighted_sum_by.Goals as goal

pub loop-s-init : goal.loop-s-init
loop-s-init g c scaling respects scales =
    let K = g.met.K in
    let e : c.into_iter-s-iterator.result.b.rest.now ≡ c.args.points.now = cc in
    let e' : c.into_iter-s-iterator.result.a.rest.now ≡ c.args.scalars.now = cc in
    weighted_sum-start K.Object.equality K.Additive.group respects _ e e' c.in_ok-out.ensures.ok

pub loop-s-preserved : goal.loop-s-preserved
loop-s-preserved g c scaling respects scales =
    let K = g.met.K in
    weighted_sum-step K.Object.equality K.Additive.group respects _ c.in-Some.ensures.steps.1 c.in-Some.ensures.steps.0 c.in_ok-term.ensures.ok
    (scales _ _ _ _ c.in_ok-scale.ensures) c.in_ok-add_assign.ensures.ok
    (c.loop-s.invariant scaling respects scales)

pub returns-clause-ok : goal.returns-clause-ok
returns-clause-ok g c scaling respects scales =
    let K = g.met.K in
    let ended : (length c.loop-s.s-iterator.b.rest.now ≡ 0) ⊎ (length c.loop-s.s-iterator.a.rest.now ≡ 0) = elim c.in-None.ensures.steps [ inl x ↦ inr x.1.0 | inr x ↦ inl x.1.0 ] in
    weighted_sum-end K.Object.equality K.Additive.group respects _ _ ended (c.loop-s.invariant scaling respects scales)
