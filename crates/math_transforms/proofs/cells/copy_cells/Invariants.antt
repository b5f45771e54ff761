use Rattle.math_transforms.proofs.CopiedCells.{AreCopiedBelow}
use Rattle.math_transforms.proofs.cells.copy_cells.Given as goal

-- copies of the cells so far
abbrev pub invariant-loop-p : goal.invariant-loop-p
invariant-loop-p g l = AreCopiedBelow g.F.Object.same g.F.Additive.zero l.from l.to l.p
