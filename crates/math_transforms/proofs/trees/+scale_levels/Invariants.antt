use Rattle.math_transforms.proofs.trees.+scale_levels.Given as goal

abbrev pub decreases-scale_levels : goal.decreases-scale_levels
decreases-scale_levels g l = l.lg
