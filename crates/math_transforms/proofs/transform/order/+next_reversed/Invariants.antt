use Rattle.math_transforms.proofs.transform.order.+next_reversed.Given as goal

abbrev pub decreases-next_reversed : goal.decreases-next_reversed
decreases-next_reversed l = l.lg
