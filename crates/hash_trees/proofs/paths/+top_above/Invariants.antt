use Rattle.hash_trees.proofs.paths.+top_above.Given as goal

abbrev pub decreases-top_above : goal.decreases-top_above
decreases-top_above l = l.n
