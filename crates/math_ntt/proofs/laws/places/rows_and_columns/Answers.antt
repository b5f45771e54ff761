use Rattle.std.proofs.Common.{arith}
use Rattle.math_ntt.proofs.MatrixPlaces.{rows_are_listed, rows_are_full, rows_hold_cells, columns_are_full, columns_hold_cells}
use Rattle.math_ntt.proofs.laws.places.rows_and_columns.Goals as goal

pub returns : goal.returns
returns g c = grind (arith, rows_are_listed, rows_are_full, rows_hold_cells, columns_are_full, columns_hold_cells)
