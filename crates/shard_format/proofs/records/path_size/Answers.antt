use Rattle.std.proofs.Common.{arith}
use Rattle.hash_trees.proofs.CountedSteps.{steps_below}
use Rattle.shard_format.proofs.records.path_size.Goals as goal

pub overflow_mul-result : goal.overflow_mul-result
overflow_mul-result c =
    let few = steps_below c.args.header.now.total c.args.header.now.total c.args.header.now.index in
    let is = c.path_steps.ensures in
    omega (arith, few, is)
