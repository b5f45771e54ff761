use Rattle.math_splitting.proofs.CutShards.{all_below}
use Rattle.math_splitting.proofs.shards.splitting.split_source.Goals as goal

pub make_shards-requires-clause-below : goal.make_shards-requires-clause-below
make_shards-requires-clause-below g c = rw c.layout_of.ensures.total (all_below c.args.total)

pub returns : goal.returns
returns g c = rw (c.layout_of.ensures.min, c.layout_of.ensures.total) at c.make_shards.ensures
