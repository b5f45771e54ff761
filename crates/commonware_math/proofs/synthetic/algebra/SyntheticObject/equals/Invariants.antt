use Rattle.std.proofs.Common.{take}
use Rattle.commonware_math.proofs.EqualCombinations.{AreZeroWeights}
use Rattle.commonware_math.proofs.synthetic.algebra.SyntheticObject.equals.Given as goal

-- the weights so far are zero
abbrev pub invariant-loop-term : goal.invariant-loop-term
invariant-loop-term g l = AreZeroWeights g.F.Object.same g.F.Additive.zero (take l.term-index l.term-items)
