use Rattle.std.proofs.Common.{◌-◌, ◌^◌, subst}
use Rattle.std.specs.Int.{IsNextPowerOfTwo}
use Rattle.std.specs.Int.Count.{count_leading_zeros}
use Rattle.math_transforms.proofs.PresentIndices.{lg-of_total}
use Rattle.math_lagrange.proofs.weights.indices.lg_of_domain.Goals as goal

pub returns-clause-value : goal.returns-clause-value
returns-clause-value c =
    subst (λ n. IsNextPowerOfTwo n (2 ^ (32 - count_leading_zeros 32 (c.get.result - 1)))) c.get.ensures.value (lg-of_total c.get.result c.get.ensures.nonzero c.get.type_inv)
