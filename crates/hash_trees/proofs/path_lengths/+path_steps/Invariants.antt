use Rattle.hash_trees.proofs.path_lengths.+path_steps.Given as goal

abbrev pub decreases-path_steps : goal.decreases-path_steps
decreases-path_steps l = l.total
