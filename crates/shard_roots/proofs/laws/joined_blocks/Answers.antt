use Rattle.shard_roots.proofs.BoundBlocks.{have_one_root}
use Rattle.shard_roots.proofs.EnoughShards.{own_shards_are_joined}
use Rattle.shard_roots.proofs.OnlyBlocks.{only_block_is_joined, own_shards_give_the_block}
use Rattle.shard_roots.proofs.laws.joined_blocks.Goals as goal

pub returns-clause-own : goal.returns-clause-own
returns-clause-own c = own_shards_give_the_block c.shards.ensures.rebuilt

pub returns-clause-bound : goal.returns-clause-bound
returns-clause-bound c = only_block_is_joined c.shards.ensures.rebuilt

pub returns-clause-joined : goal.returns-clause-joined
returns-clause-joined c = own_shards_are_joined c.shards.ensures.rebuilt (have_one_root c.shards.ensures.encoded)
