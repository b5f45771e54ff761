use Rattle.std.proofs.Common.{arith, ◌∙◌, ◌*◌}
use Rattle.std.proofs.lemmas.List.FromFn.{length-range_with_len}
use Rattle.math_splitting.proofs.CutShards.{all_below}
use Rattle.math_splitting.proofs.shards.splitting.split_source_rows.Goals as goal

pub write_shards-requires-clause-below : goal.write_shards-requires-clause-below
write_shards-requires-clause-below g c = rw c.layout_of.ensures.total (all_below c.args.total)

pub write_shards-requires-clause-cells : goal.write_shards-requires-clause-cells
write_shards-requires-clause-cells g c = grind (arith, length-range_with_len)

pub returns-clause-ok : goal.returns-clause-ok
returns-clause-ok g c = rw (c.layout_of.ensures.min, c.layout_of.ensures.total) at c.write_shards.ensures.ok
