use Rattle.std.proofs.Common.{◌^◌, arith}
use Rattle.math_splitting.proofs.LeastDomains.{domain_is_small}
use Rattle.math_splitting.proofs.shards.layouts.Layout.new.Goals as goal

pub invariant_of-result : goal.invariant_of-result
invariant_of-result c = grind (arith, domain_is_small)
