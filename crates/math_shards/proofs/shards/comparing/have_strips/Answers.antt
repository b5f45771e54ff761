use Rattle.std.proofs.Common.{◌∙◌, ◌+◌, arith}
use Rattle.math_shards.specs.Cosets.{coefficients_of}
use Rattle.math_shards.proofs.CosetRows.{values-more}
use Rattle.math_shards.proofs.shards.comparing.have_strips.Goals as goal

pub loop-from-preserved : goal.loop-from-preserved
loop-from-preserved g c =
    let layout = c.args.columns.strip.layout in
    record {
      within = omega arith;
      values = values-more g.R.Row.index g.R.Row.cells c.args.rows.now layout.lg (coefficients_of c.args.columns) c.loop-from.from c.min-cols.result
          c.loop-from.invariant.values (c.have_columns.ensures.0 c.if-not-have_columns.false);
    }

pub returns-then-not-have_columns : goal.returns-then-not-have_columns
returns-then-not-have_columns g c = grind arith
