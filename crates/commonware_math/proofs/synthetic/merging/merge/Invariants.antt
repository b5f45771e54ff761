use Rattle.std.proofs.Common.{◌+◌, length, reverse}
use Rattle.commonware_math.proofs.FreeTerms.{IsMerging}
use Rattle.commonware_math.proofs.synthetic.merging.merge.Given as goal

-- what is left of both lists, and what was taken from their ends
abbrev pub invariant-loop-out : goal.invariant-loop-out
invariant-loop-out g l = IsMerging g.F.Object.same g.F.Additive.zero g.F.Additive.sum l.fn.a.items l.fn.b.items l.left.items l.right.items (reverse l.out.items)

abbrev pub decreases-loop-out : goal.decreases-loop-out
decreases-loop-out g l = length l.left.items + length l.right.items
