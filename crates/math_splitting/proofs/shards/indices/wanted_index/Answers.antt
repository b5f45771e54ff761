use Rattle.std.proofs.Common.{◌<◌, arith}
use Rattle.std.proofs.lemmas.List.FromFn.{get_or-range_with_len, length-range_with_len}
use Rattle.math_splitting.proofs.shards.indices.wanted_index.Goals as goal

pub overflow_cast-result : goal.overflow_cast-result
overflow_cast-result c = grind (arith, length-range_with_len)

pub returns-in-All : goal.returns-in-All
returns-in-All c = grind (arith, length-range_with_len, get_or-range_with_len)
