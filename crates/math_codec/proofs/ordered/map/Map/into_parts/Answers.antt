use Rattle.std.proofs.Common.{subst}
use Rattle.std.specs.List.Sorted.{IsStrictlySortedBy}
use Rattle.math_codec.proofs.MapParts.{keys_of_view, values_of_view}
use Rattle.math_codec.proofs.ordered.map.Map.into_parts.Goals as goal

pub returns-clause-keys : goal.returns-clause-keys
returns-clause-keys g c = keys_of_view c.self.inside.keys.items c.self.inside.values.items c.args.self c.self.invariant.0 c.self.view_is

pub returns-clause-values : goal.returns-clause-values
returns-clause-values g c = values_of_view c.self.inside.keys.items c.self.inside.values.items c.args.self c.self.invariant.0 c.self.view_is

pub returns-clause-rise : goal.returns-clause-rise
returns-clause-rise g c =
    subst (IsStrictlySortedBy g.I.Ord.cmp) (keys_of_view c.self.inside.keys.items c.self.inside.values.items c.args.self c.self.invariant.0 c.self.view_is) c.self.invariant.1
