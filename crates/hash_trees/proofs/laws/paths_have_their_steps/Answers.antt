use Rattle.hash_trees.proofs.CountedSteps.{paths_have_their_steps}
use Rattle.hash_trees.proofs.laws.paths_have_their_steps.Goals as goal

pub returns : goal.returns
returns c = paths_have_their_steps
