use Rattle.math_splitting.proofs.shards.splitting.split_source_at.Goals as goal

pub make_shards-requires-clause-below : goal.make_shards-requires-clause-below
make_shards-requires-clause-below g c = rw c.layout_of.ensures.total c.requires.below

pub returns : goal.returns
returns g c = rw (c.layout_of.ensures.min, c.layout_of.ensures.total) at c.make_shards.ensures
