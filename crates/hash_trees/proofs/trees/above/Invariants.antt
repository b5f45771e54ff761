use Rattle.std.proofs.Common.{◌≡◌, ◌++◌, length}
use Rattle.sha2.specs.Sha512.{sha512_256}
use Rattle.hash_trees.specs.Trees.{above}
use Rattle.hash_trees.proofs.trees.above.Given as goal

-- the nodes so far, and those above the rest, are those above all
abbrev pub invariant-loop-rest : goal.invariant-loop-rest
invariant-loop-rest l = l.nodes.items ++ above sha512_256 l.rest ≡ above sha512_256 l.level

abbrev pub decreases-loop-rest : goal.decreases-loop-rest
decreases-loop-rest l = length l.rest
