use Rattle.std.proofs.Common.{take}
use Rattle.math_codec.specs.OrderedMaps.{places_from}
use Rattle.math_codec.proofs.FirstPairs.{SameFirsts}
use Rattle.math_codec.proofs.ValuePlaces.{with_keys}
use Rattle.math_codec.proofs.ordered.two_way.places_by_value.Given as goal

abbrev pub invariant-loop-place : goal.invariant-loop-place
invariant-loop-place g l = SameFirsts g.V.Ord.cmp (with_keys (λ v. v.now) l.table.entries) (places_from 0 (take l.place l.values))
