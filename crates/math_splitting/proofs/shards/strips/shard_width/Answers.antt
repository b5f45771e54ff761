use Rattle.std.proofs.Common.{arith, ◌≡◌, ◌∙◌, ◌+◌}
use Rattle.math_splitting.proofs.StripSizes.{width_of_words}
use Rattle.math_splitting.proofs.shards.strips.shard_width.Goals as goal

pub returns : goal.returns
returns c = grind (arith, width_of_words)
