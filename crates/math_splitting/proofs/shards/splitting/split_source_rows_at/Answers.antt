use Rattle.math_splitting.proofs.shards.splitting.split_source_rows_at.Goals as goal

pub write_shards-requires-clause-below : goal.write_shards-requires-clause-below
write_shards-requires-clause-below g c = rw c.layout_of.ensures.total c.requires.below

pub write_shards-requires-clause-cells : goal.write_shards-requires-clause-cells
write_shards-requires-clause-cells g c = record { size = rw (c.layout_of.ensures.layout.width, c.layout_of.ensures.min) c.requires.size; fits = c.requires.fits }

pub returns-clause-ok : goal.returns-clause-ok
returns-clause-ok g c = rw (c.layout_of.ensures.min, c.layout_of.ensures.total) at c.write_shards.ensures.ok
