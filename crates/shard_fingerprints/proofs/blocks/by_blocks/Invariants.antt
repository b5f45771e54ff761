use Rattle.std.proofs.Common.{◌≡◌, ◌*◌, ◌≤◌, length, drop}
use Rattle.shard_fingerprints.specs.Fingerprints.{fingerprint}
use Rattle.shard_fingerprints.proofs.blocks.by_blocks.Given as goal

-- the fingerprint of the words after the next block
abbrev pub invariant-loop-index : goal.invariant-loop-index
invariant-loop-index l = record {
  within : l.index * 32 ≤ length l.words;
  value : l.value ≡ fingerprint (drop (l.index * 32) l.words) l.fn.key;
}

abbrev pub decreases-loop-index : goal.decreases-loop-index
decreases-loop-index l = l.index
