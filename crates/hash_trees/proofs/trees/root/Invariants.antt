use Rattle.std.proofs.Common.{◌≡◌, ◌≤◌, length}
use Rattle.sha2.specs.Sha512.{sha512_256}
use Rattle.hash_trees.specs.Trees.{root}
use Rattle.hash_trees.proofs.trees.root.Given as goal

-- there are nodes, and the root above them is that of the leaves
abbrev pub invariant-loop-alloc : goal.invariant-loop-alloc
invariant-loop-alloc l = (1 ≤ length l.level.items) × (root sha512_256 l.level.items ≡ root sha512_256 l.leaves)

abbrev pub decreases-loop-alloc : goal.decreases-loop-alloc
decreases-loop-alloc l = length l.level.items
