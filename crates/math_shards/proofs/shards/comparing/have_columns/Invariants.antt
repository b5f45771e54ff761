use Rattle.std.proofs.Common.{◌%◌, ◌<◌, ◌^◌, All}
use Rattle.math_fields.specs.Elements.{root_of, same}
use Rattle.math_shards.specs.Cosets.{HasValuesFrom, coefficients_of}
use Rattle.math_restoring.specs.CosetDivisions.{raised}
use Rattle.math_shards.proofs.shards.comparing.have_columns.Given as goal

-- the rows of the cosets so far have the values, and the ratio is that of the next coset
abbrev pub invariant-loop-start : goal.invariant-loop-start
invariant-loop-start g l = record {
  ratio : same l.ratio (raised (root_of l.columns.strip.layout.lg) l.start);
  values : All (λ row. g.R.Row.index row % 2 ^ l.stride < l.start
      → HasValuesFrom l.columns.strip.layout.lg (coefficients_of l.columns) l.columns.strip.from l.columns.strip.cols (g.R.Row.index row) (g.R.Row.cells row)) l.rows;
}
