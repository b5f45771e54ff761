use Rattle.math_codec.specs.OrderedMaps.{KeysDiffer}
use Rattle.math_codec.proofs.FirstPairs.{SameFirsts}
use Rattle.math_codec.proofs.ordered.map.Map.try_from_iter.Given as goal

abbrev pub invariant-loop-key : goal.invariant-loop-key
invariant-loop-key g l =
    (goal.iterator-loop-key g).can_next l.key-iterator × (goal.iterator-loop-key g).is_finite l.key-iterator × SameFirsts g.I.Ord.cmp l.entries.entries l.yielded × KeysDiffer g.I.Ord.cmp l.yielded
