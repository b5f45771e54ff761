use Rattle.std.proofs.Common.{◌≡◌, take, Bor}
use Rattle.std.specs.List.{list_any}
use Rattle.std.specs.Ordering.{is_eq}
use Rattle.math_codec.specs.OrderedMaps.{has_key, has_value, KeysDiffer, ValuesDiffer}
use Rattle.math_codec.proofs.ordered.two_way.check_distinct.Given as goal

abbrev pub invariant-loop-key : goal.invariant-loop-key
invariant-loop-key g l =
    record {
      keys : (q : Bor g.row.I.Denot) → list_any (λ k. is_eq (g.I.Ord.cmp q.now k.now)) l.keys.keys ≡ has_key g.I.Ord.cmp q.now (take l.key-index l.pairs);
      values : (q : Bor g.row.V.Denot) → list_any (λ v. is_eq (g.V.Ord.cmp q.now v.now)) l.values.keys ≡ has_value g.V.Ord.cmp q.now (take l.key-index l.pairs);
      keys_differ : KeysDiffer g.I.Ord.cmp (take l.key-index l.pairs);
      values_differ : ValuesDiffer g.V.Ord.cmp (take l.key-index l.pairs);
    }
