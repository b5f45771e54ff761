use Rattle.shard_roots.proofs.BoundBlocks.{blocks_are_bound, have_one_root}
use Rattle.shard_roots.proofs.laws.roots.Goals as goal

pub returns-clause-once : goal.returns-clause-once
returns-clause-once c = have_one_root c.shards.ensures.encoded

pub returns-clause-bound : goal.returns-clause-bound
returns-clause-bound c = blocks_are_bound
