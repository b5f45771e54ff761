use Rattle.std.proofs.Common.{◌-◌, ◌≤◌, All}
use Rattle.math_shards.specs.Cosets.{coefficients_of}
use Rattle.math_shards.proofs.CosetRows.{HasFirstValues}
use Rattle.math_shards.proofs.shards.comparing.have_strips.Given as goal

-- the rows have the values of the columns so far
abbrev pub invariant-loop-from : goal.invariant-loop-from
invariant-loop-from g l = record {
  within : l.from ≤ l.columns.strip.layout.width;
  values : All (λ row. HasFirstValues l.columns.strip.layout.lg (coefficients_of l.columns) l.from (g.R.Row.index row) (g.R.Row.cells row)) l.rows;
}

abbrev pub decreases-loop-from : goal.decreases-loop-from
decreases-loop-from g l = l.columns.strip.layout.width - l.from
