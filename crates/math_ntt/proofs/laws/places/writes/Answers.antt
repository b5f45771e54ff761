use Rattle.math_ntt.proofs.MatrixPlaces.{cells_are_written_alone, rows_are_written_alone, rows_are_filled_alone}
use Rattle.math_ntt.proofs.laws.places.writes.Goals as goal

pub returns : goal.returns
returns g c = record { cell = cells_are_written_alone; row = rows_are_written_alone; filled = rows_are_filled_alone g.F.Object.same }
