use Rattle.std.proofs.Common.{sym, subst}
use Rattle.math_codec.specs.OrderedMaps.{KeysRise}
use Rattle.math_codec.proofs.MapParts.{zip_of_all}
use Rattle.math_codec.proofs.ordered.map.Map.from_entries.Goals as goal

pub returns-clause-pairs : goal.returns-clause-pairs
returns-clause-pairs g c =
    zip_of_all c.loop-key.keys.items c.loop-key.values.items c.loop-key.key-iterator c.args.entries.entries c.loop-key.invariant.keys c.loop-key.invariant.values c.in-None.ensures.steps.0

pub returns-clause-rise : goal.returns-clause-rise
returns-clause-rise g c =
    let all = zip_of_all c.loop-key.keys.items c.loop-key.values.items c.loop-key.key-iterator c.args.entries.entries c.loop-key.invariant.keys c.loop-key.invariant.values c.in-None.ensures.steps.0 in
    subst (KeysRise g.I.Ord.cmp) (sym all) c.into_iter-key-iterator.ensures.into_iter_gives.5
