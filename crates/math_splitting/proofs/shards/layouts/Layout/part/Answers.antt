use Rattle.std.proofs.Common.{◌^◌, arith}
use Rattle.math_splitting.proofs.LeastDomains.{least_lg}
use Rattle.math_splitting.proofs.shards.layouts.Layout.part.Goals as goal

pub returns-clause-within : goal.returns-clause-within
returns-clause-within c = grind (arith, least_lg)
