use Rattle.math_transforms.proofs.TurnedCells.{weights-forward, weights-back}
use Rattle.math_transforms.proofs.points_below.quarters.turn_by_weights.Goals as goal

pub returns-in_ok-combine-4-clause-turned : goal.returns-in_ok-combine-4-clause-turned
returns-in_ok-combine-4-clause-turned g c =
    let F = g.met.F in
    weights-forward _ F.Object.equality F.Additive.group F.Multiplicative.commutes F.Ring.ring g.row.FORWARD _ _ _ _ _ _ _ c.if-this-ne0.true _ _ _ _ _ _ _ _
    c.in_ok-combine.ensures.combined c.in_ok-combine-2.ensures.combined c.in_ok-combine-3.ensures.combined c.in_ok-combine-4.ensures.combined

pub returns-in_ok-combine-8-clause-turned : goal.returns-in_ok-combine-8-clause-turned
returns-in_ok-combine-8-clause-turned g c =
    let F = g.met.F in
    weights-back _ F.Object.equality F.Additive.group F.Multiplicative.commutes F.Ring.ring g.row.FORWARD _ _ _ _ _ _ _ c.if-this-ne0.false _ _ _ _ _ _ _ _
    c.in_ok-combine-5.ensures.combined c.in_ok-combine-6.ensures.combined c.in_ok-combine-7.ensures.combined c.in_ok-combine-8.ensures.combined
