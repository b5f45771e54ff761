use Rattle.std.proofs.Common.{◌≡◌, ◌∙◌, ◌≤◌, arith}
use Rattle.math_transforms.proofs.PowersOfTwo.{power_of_two-same}
use Rattle.math_transforms.specs.Matrices.{column_of}
use Rattle.math_splitting.specs.Shards.{rows_for}
use Rattle.math_splitting.proofs.LeastDomains.{domain_is_small}
use Rattle.math_splitting.proofs.SameCells.{nought}
use Rattle.math_shards.proofs.CorrectedShards.{count_settled, least_is_positive, least_is_within, within_radius}
use Rattle.math_shards.proofs.shards.correcting.corrected_polynomials.Goals as goal

pub correct-requires-clause-domain : goal.correct-requires-clause-domain
correct-requires-clause-domain c lg is = grind (arith, power_of_two-same, least_is_positive, least_is_within, domain_is_small)

pub correct-requires-clause-count : goal.correct-requires-clause-count
correct-requires-clause-count c = grind (arith, count_settled)

pub returns-in_default-clause-none : goal.returns-in_default-clause-none
returns-in_default-clause-none c = λ words k.
    let first = c.args.first.now in
    let g = c.in_ok-values.ensures in
    (rw c.in_default.is at c.in_ok-corrected.ensures.none) g.0 g.1.holds.size.0 (column_of nought (rows_for first.min words))
    (within_radius g.0 first c.args.shards.now c.in_ok-values.values g.1 words k)

pub returns-clause-some : goal.returns-clause-some
returns-clause-some c = grind arith
