use Rattle.math_transforms.proofs.CombinedPairs.{combined-at_one, combined-forward, combined-back, true-from_number}
use Rattle.math_transforms.proofs.transform.butterflies.combine.Goals as goal

pub returns-then-this-ne0-clause-combined : goal.returns-then-this-ne0-clause-combined
returns-then-this-ne0-clause-combined g c =
    let F = g.met.F in
    combined-at_one _ F.Object.equality F.Additive.group F.Multiplicative.commutes F.Ring.ring _ _ _ _ _ _ (c.requires.one (true-from_number _ c.if-this-ne0.true))
    c.in_ok-sum_and_difference.ensures.sum c.in_ok-sum_and_difference.ensures.difference

pub returns-in_ok-sum_and_difference-2-clause-combined : goal.returns-in_ok-sum_and_difference-2-clause-combined
returns-in_ok-sum_and_difference-2-clause-combined g c =
    let F = g.met.F in
    combined-forward _ F.Object.equality F.Additive.group _ c.if-this-ne0-2.true _ _ _ _ _ _ c.in_ok-mul_assign.ensures.ok
    c.in_ok-sum_and_difference-2.ensures.sum c.in_ok-sum_and_difference-2.ensures.difference

pub returns-in_ok-mul_assign-2-clause-combined : goal.returns-in_ok-mul_assign-2-clause-combined
returns-in_ok-mul_assign-2-clause-combined g c =
    let F = g.met.F in
    combined-back _ F.Object.equality F.Additive.group F.Multiplicative.commutes _ c.if-this-ne0-2.false _ _ _ _ _ _
    c.in_ok-sum_and_difference-3.ensures.sum c.in_ok-sum_and_difference-3.ensures.difference c.in_ok-mul_assign-2.ensures.ok
