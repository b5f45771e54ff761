use Rattle.std.proofs.Common.{◌+◌, ◌^◌}
use Rattle.math_restoring.specs.Restorers.{factors_of, lg_of, places_of}
use Rattle.math_restoring.proofs.PlacedRows.{ArePlacedBefore}
use Rattle.row_interpolation.proofs.by_transforms.Transforms.place_rows.Given as goal

-- the rows so far are placed, and the cells at other places are zero
abbrev pub invariant-loop-t : goal.invariant-loop-t
invariant-loop-t g l =
    ArePlacedBefore (2 ^ lg_of l.self.restorer) (places_of l.self.restorer) (factors_of l.self.restorer) l.cols (λ t k. g.R.ElementRows.element l.rows t (l.from + k)) l.t l.strip
