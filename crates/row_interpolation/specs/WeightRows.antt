-- Rows of weights, as they are kept.
use Rattle.std.specs.Prelude.{◌≡◌, ℕ, List, length}
use Rattle.row_interpolation.specs.declared.by_weights.WeightRows.{WeightRows}
use Rattle.row_interpolation.specs.Weights.{AreWeightRows}

-- they are the weights by which rows of the indices give the rows of the targets
pub record AreRowsFor (total : ℕ) (indices targets : List ℕ) (w : WeightRows) : Type 0 where
  pub count : w.count ≡ length indices
  pub many : w.targets ≡ length targets
  pub weights : AreWeightRows total indices targets (length targets) w.weights.items
