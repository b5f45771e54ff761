use Rattle.std.proofs.Common.{◌∙◌}
use Rattle.systematic_shards.proofs.Ranges.{range-next}
use Rattle.systematic_shards.proofs.encoding.places_below.Goals as goal

pub loop-place-preserved : goal.loop-place-preserved
loop-place-preserved c = c.in_ok-push.ensures.items ∙ range-next c.loop-place.place c.loop-place.places.items c.loop-place.invariant
