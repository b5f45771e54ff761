use Rattle.std.proofs.Common.{ap, ◌∙◌, sym}
use Rattle.std.specs.List.{zip}
use Rattle.math_codec.proofs.MapParts.{keys_of_view, length_of_view}
use Rattle.math_codec.proofs.ordered.map.Map.with_values.Goals as goal

pub invariant_of-result : goal.invariant_of-result
invariant_of-result g c = (c.requires ∙ sym (length_of_view c.self.inside.keys.items c.self.inside.values.items c.args.self c.self.invariant.0 c.self.view_is), c.self.invariant.1)

pub returns : goal.returns
returns g c = ap (λ ks. zip ks c.args.values.items) (keys_of_view c.self.inside.keys.items c.self.inside.values.items c.args.self c.self.invariant.0 c.self.view_is)
