use Rattle.sha2.proofs.Facts512.{length-sha512_256}
use Rattle.hash_trees.proofs.BoundRecords.{paths_lead_up, roots_go_up}
use Rattle.hash_trees.proofs.laws.trees.Goals as goal

pub returns-clause-up : goal.returns-clause-up
returns-clause-up c = roots_go_up

pub returns-clause-paths : goal.returns-clause-paths
returns-clause-paths c = paths_lead_up

pub returns-clause-digests : goal.returns-clause-digests
returns-clause-digests c = length-sha512_256
