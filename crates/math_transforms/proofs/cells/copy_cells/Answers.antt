use Rattle.std.proofs.Common.{arith}
use Rattle.math_transforms.proofs.CopiedCells.{copied-more}
use Rattle.math_transforms.proofs.cells.copy_cells.Goals as goal

pub loop-p-init : goal.loop-p-init
loop-p-init g c = λ q l. absurd (omega (arith, l))

pub loop-p-preserved : goal.loop-p-preserved
loop-p-preserved g c =
    copied-more g.F.Object.same g.F.Additive.zero c.args.from.now c.loop-p.to c.loop-p.p _ c.index-from-p.result (omega arith) (omega arith) c.index-from-p.is c.in_ok-to.ensures.ok c.loop-p.invariant
