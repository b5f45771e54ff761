use Rattle.math_shards.proofs.OnlyData.{only_data}
use Rattle.math_shards.proofs.JoinedShards.{chosen_join}
use Rattle.math_shards.proofs.laws.joined_data.Goals as goal

pub returns-clause-once : goal.returns-clause-once
returns-clause-once c = only_data

pub returns-clause-chosen : goal.returns-clause-chosen
returns-clause-chosen c = chosen_join
