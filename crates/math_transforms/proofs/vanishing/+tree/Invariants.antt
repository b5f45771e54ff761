use Rattle.math_transforms.proofs.vanishing.+tree.Given as goal

abbrev pub decreases-tree : goal.decreases-tree
decreases-tree g l = l.trees.now.lg
