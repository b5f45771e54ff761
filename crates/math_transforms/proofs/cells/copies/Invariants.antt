use Rattle.std.proofs.Common.{take}
use Rattle.std.specs.List.{AllZip}
use Rattle.math_transforms.proofs.cells.copies.Given as goal

-- copies of the cells so far
abbrev pub invariant-loop-cell : goal.invariant-loop-cell
invariant-loop-cell g l = AllZip g.F.Object.same l.out.items (take l.cell-index l.cells)
