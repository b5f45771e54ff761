use Rattle.math_transforms.proofs.points_below.+evaluate_few_below.Given as goal

abbrev pub decreases-evaluate_few_below : goal.decreases-evaluate_few_below
decreases-evaluate_few_below g l = l.points.now.lg
