use Rattle.std.proofs.Common.{◌≡◌, ◌∙◌, ◌*◌, length, sym, ap, arith}
use Rattle.math_shards.proofs.PutCoefficients.{column_in, columns-more}
use Rattle.math_shards.proofs.shards.weighing.put_columns.Goals as goal
use Rattle.math_shards.proofs.shards.weighing.put_columns.Goals.{After-copy_column}

same : (c : After-copy_column) → length c.copy_column.new.column ≡ length c.args.column.now
same c = c.copy_column.auto.column ∙ c.loop-k.auto.column

pub copy_column-requires-clause-size : goal.copy_column-requires-clause-size
copy_column-requires-clause-size c = c.loop-k.auto.cells ∙ c.put_strips-done.auto.cells ∙ c.requires.size ∙ ap (λ n. n * c.args.width) (sym c.loop-k.auto.column)

pub put_column-requires-clause-size : goal.put_column-requires-clause-size
put_column-requires-clause-size c =
    c.loop-k.auto.cells ∙ c.put_strips-done.auto.cells ∙ c.requires.size ∙ ap (λ n. n * c.args.width) (sym (same (goal.at.put_column-requires-clause-size c).After-copy_column))

pub put_column-requires-clause-weights : goal.put_column-requires-clause-weights
put_column-requires-clause-weights c = grind arith

pub loop-k-init : goal.loop-k-init
loop-k-init c = c.put_strips-done.ensures.put

pub loop-k-preserved : goal.loop-k-preserved
loop-k-preserved c = grind (arith, column_in, columns-more)

pub returns : goal.returns
returns c = grind arith
