use Rattle.std.proofs.Common.{◌∙◌}
use Rattle.systematic_shards.proofs.Ranges.{range-more}
use Rattle.systematic_shards.proofs.encoding.indices_between.Goals as goal

pub loop-index-preserved : goal.loop-index-preserved
loop-index-preserved c = c.in_ok-push.ensures.items ∙ range-more c.args.from c.loop-index.index c.loop-index.out.items c.loop-index.auto.index c.loop-index.invariant
