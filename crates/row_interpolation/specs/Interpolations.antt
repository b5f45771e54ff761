-- How an interpolation makes rows.
use Rattle.std.specs.Prelude.{ℕ, ◌^◌, List}
use Rattle.row_interpolation.specs.declared.interpolation.Way.{Way}
use Rattle.row_interpolation.specs.declared.interpolation.Way.TheVariants.{ByWeights, ByTransforms}
use Rattle.row_interpolation.specs.Transforms.{AreTransformsFor}
use Rattle.row_interpolation.specs.WeightRows.{AreRowsFor}

-- it makes rows of the targets from rows of the indices
abbrev pub IsWayFor : ℕ → List ℕ → List ℕ → Way → Type 0
IsWayFor total indices targets (ByWeights w) = AreRowsFor total indices targets w
IsWayFor total indices targets (ByTransforms t) = AreTransformsFor total indices t

-- how many elements it takes for a column of the rows in hand
abbrev pub height_of : Way → ℕ
height_of (ByWeights w) = w.count
height_of (ByTransforms t) = 2 ^ t.lg
