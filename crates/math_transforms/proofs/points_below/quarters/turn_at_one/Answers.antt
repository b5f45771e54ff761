use Rattle.math_transforms.proofs.TurnedCells.{one-forward, one-back}
use Rattle.math_transforms.proofs.points_below.quarters.turn_at_one.Goals as goal

pub returns-in_ok-sum_and_difference-4-clause-turned : goal.returns-in_ok-sum_and_difference-4-clause-turned
returns-in_ok-sum_and_difference-4-clause-turned g c =
    let F = g.met.F in
    one-forward _ F.Object.equality F.Additive.group F.Multiplicative.commutes F.Ring.ring g.row.FORWARD c.args.f.now c.args.f.now c.args.f.now _ _ _ _ c.if-this-ne0.true _ _ _ _ _ _ _ _ _ _
    (record { sum = c.in_ok-sum_and_difference.ensures.sum; difference = c.in_ok-sum_and_difference.ensures.difference })
    (record { sum = c.in_ok-sum_and_difference-2.ensures.sum; difference = c.in_ok-sum_and_difference-2.ensures.difference })
    c.in_ok-times_root_of_four.ensures.ok
    (record { sum = c.in_ok-sum_and_difference-3.ensures.sum; difference = c.in_ok-sum_and_difference-3.ensures.difference })
    (record { sum = c.in_ok-sum_and_difference-4.ensures.sum; difference = c.in_ok-sum_and_difference-4.ensures.difference })

pub returns-in_ok-sum_and_difference-8-clause-turned : goal.returns-in_ok-sum_and_difference-8-clause-turned
returns-in_ok-sum_and_difference-8-clause-turned g c =
    let F = g.met.F in
    one-back _ F.Object.equality F.Additive.group F.Multiplicative.commutes F.Ring.ring g.row.FORWARD c.args.f.now c.args.f.now c.args.f.now _ _ _ _ c.if-this-ne0.false _ _ _ _ _ _ _ _ _ _
    (record { sum = c.in_ok-sum_and_difference-5.ensures.sum; difference = c.in_ok-sum_and_difference-5.ensures.difference })
    (record { sum = c.in_ok-sum_and_difference-6.ensures.sum; difference = c.in_ok-sum_and_difference-6.ensures.difference })
    c.in_ok-times_root_of_four-2.ensures.ok
    (record { sum = c.in_ok-sum_and_difference-7.ensures.sum; difference = c.in_ok-sum_and_difference-7.ensures.difference })
    (record { sum = c.in_ok-sum_and_difference-8.ensures.sum; difference = c.in_ok-sum_and_difference-8.ensures.difference })
