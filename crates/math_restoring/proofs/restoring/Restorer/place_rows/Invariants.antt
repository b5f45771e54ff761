use Rattle.std.proofs.Common.{◌+◌, ◌*◌, ◌^◌, get_or}
use Rattle.math_restoring.proofs.CombinedColumns.{nought}
use Rattle.math_restoring.proofs.PlacedRows.{ArePlacedBefore}
use Rattle.math_restoring.proofs.restoring.Restorer.place_rows.Given as goal

-- the rows so far are placed, and the cells at other places are zero
abbrev pub invariant-loop-t : goal.invariant-loop-t
invariant-loop-t l =
    ArePlacedBefore (2 ^ l.self.division.lg) l.self.places.items l.self.division.factors.items l.cols (λ t k. get_or l.cells (t * l.width + l.from + k) nought) l.t l.room
