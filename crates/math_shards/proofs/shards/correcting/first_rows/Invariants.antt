-- What has been taken, and the rows that are left after it, are the first cells.
use Rattle.std.proofs.Common.{◌≡◌, ◌*◌, ◌++◌, take}
use Rattle.std.specs.List.{flat_map}
use Rattle.math_shards.proofs.shards.correcting.first_rows.Given as goal

abbrev pub invariant-loop-row : goal.invariant-loop-row
invariant-loop-row l = l.elements.items ++ flat_map (λ row. row) l.row-iterator ≡ take (l.min * l.polynomials.cols) l.polynomials.cells
