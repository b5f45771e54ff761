use Rattle.std.proofs.Common.{◌≡◌, map}
use Rattle.std.specs.List.{range_with_len}
use Rattle.hash_trees.specs.Trees.{leaf_message}
use Rattle.sha2.specs.Sha512.{sha512_256}
use Rattle.shard_roots.specs.Records.{record_of, row_of}
use Rattle.shard_roots.proofs.records.shard_leaves.Given as goal

-- the digests of the records so far
abbrev pub invariant-loop-index : goal.invariant-loop-index
invariant-loop-index l =
    l.digests.items ≡ map (λ i. sha512_256 (leaf_message (record_of l.split l.mask i (row_of l.split l.block l.parity i)))) (range_with_len 0 l.index)
