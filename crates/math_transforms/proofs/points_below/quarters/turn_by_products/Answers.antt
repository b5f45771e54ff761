use Rattle.math_transforms.proofs.TurnedCells.{products-forward, products-back}
use Rattle.math_transforms.proofs.points_below.quarters.turn_by_products.Goals as goal

pub returns-in_ok-sum_and_difference-2-clause-turned : goal.returns-in_ok-sum_and_difference-2-clause-turned
returns-in_ok-sum_and_difference-2-clause-turned g c =
    let F = g.met.F in
    products-forward _ F.Object.equality F.Additive.group F.Multiplicative.commutes F.Ring.ring g.row.FORWARD _ _ _ _ _ _ _ c.if-this-ne0.true _ _ _ _ _ _ _ _ _ _
    c.requires.products.product c.requires.products.minus c.in_ok-combine.ensures.combined c.in_ok-first.ensures.ok c.in_ok-second.ensures.ok
    (record { sum = c.in_ok-sum_and_difference.ensures.sum; difference = c.in_ok-sum_and_difference.ensures.difference })
    (record { sum = c.in_ok-sum_and_difference-2.ensures.sum; difference = c.in_ok-sum_and_difference-2.ensures.difference })

pub returns-in_ok-second-2-clause-turned : goal.returns-in_ok-second-2-clause-turned
returns-in_ok-second-2-clause-turned g c =
    let F = g.met.F in
    products-back _ F.Object.equality F.Additive.group F.Multiplicative.commutes F.Ring.ring g.row.FORWARD _ _ _ _ _ _ _ c.if-this-ne0.false _ _ _ _ _ _ _ _ _ _
    c.requires.products.product c.requires.products.minus
    (record { sum = c.in_ok-sum_and_difference-3.ensures.sum; difference = c.in_ok-sum_and_difference-3.ensures.difference })
    (record { sum = c.in_ok-sum_and_difference-4.ensures.sum; difference = c.in_ok-sum_and_difference-4.ensures.difference })
    c.in_ok-combine-2.ensures.combined c.in_ok-first-2.ensures.ok c.in_ok-second-2.ensures.ok
