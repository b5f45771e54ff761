use Rattle.std.proofs.Common.{◌≡◌, length}
use Rattle.math_transforms.specs.Matrices.{AreFilledUp}
use Rattle.math_transforms.proofs.cells.filled_up.Given as goal

-- as many cells as the index says, the zeros last
abbrev pub invariant-loop-done : goal.invariant-loop-done
invariant-loop-done g l = record {
  count : length l.out.items ≡ l._done;
  cells : AreFilledUp g.F.Object.same g.F.Additive.zero l.fn.cells.items l.out.items;
}
