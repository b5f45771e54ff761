use Rattle.std.proofs.Common.{◌∙◌, ap, arith, length}
use Rattle.sha2.specs.Sha512.{sha512_256}
use Rattle.shard_roots.proofs.BoundBlocks.{count-leaves}
use Rattle.shard_roots.proofs.committing.commit.Goals as goal

pub new-requires : goal.new-requires
new-requires c =
    let count = ap length c.in_ok-shards.ensures.leaves ∙ count-leaves sha512_256 c.args.split c.in_ok-shards.shards.mask c.args.block.now c.in_ok-shards.shards.parity.items in
    omega (arith, count, c.args.split.some, c.args.split.within)

pub returns-clause-count : goal.returns-clause-count
returns-clause-count c = ap length c.in_ok-tree.ensures ∙ (ap length c.in_ok-shards.ensures.leaves ∙ count-leaves sha512_256 c.args.split c.in_ok-shards.shards.mask c.args.block.now c.in_ok-shards.shards.parity.items)
