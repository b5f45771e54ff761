use Rattle.sha2.specs.Sha512.{sha512_256}
use Rattle.hash_trees.specs.Steps.{path_steps}
use Rattle.hash_trees.specs.Trees.{path}
use Rattle.c_calls.specs.RootedShards.{ArePlaces}
use Rattle.c_calls.proofs.roots.places.Given as goal

-- the places so far
abbrev pub invariant-loop-index : goal.invariant-loop-index
invariant-loop-index l = ArePlaces (path_steps l.total 0) l.index (path sha512_256 l.commitment.tree) l.places.items
