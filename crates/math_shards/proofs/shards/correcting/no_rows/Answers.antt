use Rattle.math_shards.proofs.CheckedSizes.{holds_where_some}
use Rattle.math_shards.proofs.shards.correcting.no_rows.Goals as goal

pub empty-requires-clause-fits : goal.empty-requires-clause-fits
empty-requires-clause-fits c = rw (← c.size_of.ensures) (holds_where_some _ _ c.checked_mul.result c.if-is_none.ensures c.checked_mul.ensures)
