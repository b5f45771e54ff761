use Rattle.math_decoding.proofs.WrongPlaces.{AreGathered}
use Rattle.systematic_shards.specs.Correcting.{cells_at}
use Rattle.systematic_shards.specs.Shards.{IsRowOf}
use Rattle.systematic_shards.proofs.Positions.{HoldsAtPosition}
use Rattle.systematic_shards.proofs.correcting.unlike_rows.Given as goal

-- the positions so far at which the row is not that of the cells
abbrev pub invariant-loop-position : goal.invariant-loop-position
invariant-loop-position g l =
    AreGathered (HoldsAtPosition (λ row. IsRowOf l.code.split l.code.mask (cells_at l.code.split.width l.cells) row.index (g.M.WordMemory.word row.cells.now)) l.rows) l.position l.positions.items
