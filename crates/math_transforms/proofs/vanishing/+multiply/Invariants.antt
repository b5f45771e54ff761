use Rattle.math_transforms.proofs.vanishing.+multiply.Given as goal

abbrev pub decreases-multiply : goal.decreases-multiply
decreases-multiply g l = l.trees.now.lg
