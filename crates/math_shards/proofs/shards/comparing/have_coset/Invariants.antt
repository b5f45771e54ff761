use Rattle.std.specs.List.{AllWithin}
use Rattle.math_shards.specs.Cosets.{HasCosetCells}
use Rattle.math_shards.proofs.shards.comparing.have_coset.Given as goal

-- the rows so far have the cells of the coset
abbrev pub invariant-loop-row : goal.invariant-loop-row
invariant-loop-row g l = AllWithin (λ row. HasCosetCells l.cells l.strip.cols l.strip.from l.start l.stride (g.R.Row.index row) (g.R.Row.cells row)) l.rows 0 l.row-index
