use Rattle.sha2.specs.Sha512.{sha512_256}
use Rattle.math_decoding.proofs.WrongPlaces.{AreGathered}
use Rattle.shard_roots.specs.Joining.{IsShardUnder}
use Rattle.shard_roots.proofs.Selected.{AreKept, HoldsAt}
use Rattle.shard_roots.proofs.joining.select.Given as goal

-- of the shards so far those under the root are kept, and the positions of the others are gathered
abbrev pub invariant-loop-position : goal.invariant-loop-position
invariant-loop-position l =
    AreKept (IsShardUnder sha512_256 l.split l.top) l.shards l.position l.kept.items
    × AreGathered (HoldsAt (IsShardUnder sha512_256 l.split l.top) l.shards) l.position l.left_out.items
