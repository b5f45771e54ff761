use Rattle.std.proofs.Common.{length}
use Rattle.hash_trees.proofs.tree_levels.+add_path_by_levels.Given as goal

abbrev pub decreases-add_path_by_levels : goal.decreases-add_path_by_levels
decreases-add_path_by_levels l = length l.levels.now
