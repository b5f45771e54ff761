use Rattle.std.proofs.Common.{◌≡◌, map, take}
use Rattle.math_transforms.specs.Matrices.{pieces}
use Rattle.math_shards.proofs.shards.joining_rows.cell_rows.Given as goal

-- the rows so far
abbrev pub invariant-loop-i : goal.invariant-loop-i
invariant-loop-i g l =
    (map (λ row. row.index) l.rows.items ≡ take l.i l.indices) × (map (λ row. map g.C.Cell.number row.cells.now) l.rows.items ≡ pieces l.i l.cols (map g.C.Cell.number l.cells))
