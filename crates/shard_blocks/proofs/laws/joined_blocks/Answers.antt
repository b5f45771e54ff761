use Rattle.shard_blocks.proofs.OneBlock.{chosen_give_block, lost_come_back, one_block}
use Rattle.shard_blocks.proofs.laws.joined_blocks.Goals as goal

pub returns-clause-once : goal.returns-clause-once
returns-clause-once c = one_block

pub returns-clause-chosen : goal.returns-clause-chosen
returns-clause-chosen c = chosen_give_block

pub returns-clause-lost : goal.returns-clause-lost
returns-clause-lost c = lost_come_back
