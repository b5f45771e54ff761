use Rattle.math_codec.proofs.FirstPairs.{SameFirsts}
use Rattle.math_codec.proofs.ordered.map.Map.from_iter_dedup.Given as goal

abbrev pub invariant-loop-key : goal.invariant-loop-key
invariant-loop-key g l =
    (goal.iterator-loop-key g).can_next l.key-iterator × (goal.iterator-loop-key g).is_finite l.key-iterator × SameFirsts g.I.Ord.cmp l.entries.entries l.yielded
