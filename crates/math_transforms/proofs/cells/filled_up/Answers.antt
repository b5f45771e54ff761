use Rattle.std.proofs.Common.{rules}
use Rattle.math_transforms.proofs.FilledCells.{filled-more}
use Rattle.math_transforms.proofs.cells.filled_up.Goals as goal

pub loop-done-preserved : goal.loop-done-preserved
loop-done-preserved g c = record {
  count = search rules;
  cells = filled-more g.F.Object.same g.F.Additive.zero _ _ _ _ c.in_ok-push.ensures.items c.in_ok-zero.ensures.ok c.loop-done.invariant.cells;
}
