use Rattle.std.proofs.Common.{◌≡◌, ◌≤◌, length, map}
use Rattle.sha2.specs.Sha512.{sha512_256}
use Rattle.hash_trees.specs.Trees.{root}
use Rattle.hash_trees.proofs.KeptLevels.{IsChain}
use Rattle.hash_trees.proofs.tree_levels.Tree.new.Given as goal

-- there are nodes in the level; the levels lead from the leaves to it; the root above it is that of the leaves
abbrev pub invariant-loop-alloc : goal.invariant-loop-alloc
invariant-loop-alloc l =
    (1 ≤ length l.level.items) × IsChain sha512_256 l.fn.leaves.items (map (λ level. level.items) l.levels.items) l.level.items
    × (root sha512_256 l.level.items ≡ root sha512_256 l.fn.leaves.items)

abbrev pub decreases-loop-alloc : goal.decreases-loop-alloc
decreases-loop-alloc l = length l.level.items
