use Rattle.std.proofs.Common.{◌≡◌}
use Rattle.math_codec.proofs.ordered.two_way.BiMap.try_from_iter.Given as goal

abbrev pub invariant-loop-pair : goal.invariant-loop-pair
invariant-loop-pair g l =
    (goal.iterator-loop-pair g).can_next l.pair-iterator × (goal.iterator-loop-pair g).is_finite l.pair-iterator × (l.taken.items ≡ l.yielded)
