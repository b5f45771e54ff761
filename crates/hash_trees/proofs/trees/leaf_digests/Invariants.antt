use Rattle.std.proofs.Common.{◌≡◌, ◌++◌, drop, map}
use Rattle.sha2.specs.Sha512.{sha512_256}
use Rattle.hash_trees.specs.Binding.{leaves}
use Rattle.hash_trees.proofs.trees.leaf_digests.Given as goal

-- the leaves so far, and those of the rest, are all
abbrev pub invariant-loop-content : goal.invariant-loop-content
invariant-loop-content l = l.digests.items ++ leaves sha512_256 (map (λ v. v.items) (drop l.content-index l.records)) ≡ leaves sha512_256 (map (λ v. v.items) l.records)
