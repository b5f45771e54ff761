use Rattle.std.proofs.Common.{length}
use Rattle.commonware_math.proofs.synthetic.algebra.+weighted_sum_by_halves.Given as goal

abbrev pub decreases-weighted_sum_by_halves : goal.decreases-weighted_sum_by_halves
decreases-weighted_sum_by_halves g l = length l.combinations.now
