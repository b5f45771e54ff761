use Rattle.std.proofs.Common.{◌≡◌, ◌*◌, length}
use Rattle.shard_fingerprints.proofs.WordBlocks.{ArePowersTo}
use Rattle.shard_fingerprints.proofs.blocks.powers_of.Given as goal

-- the powers so far
abbrev pub invariant-loop-i : goal.invariant-loop-i
invariant-loop-i l = record {
  count : length l.powers ≡ 32;
  powers : ArePowersTo l.key l.powers (2 * l.i);
}
