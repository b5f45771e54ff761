use Rattle.std.proofs.Common.{◌∙◌}
use Rattle.math_codec.proofs.MapParts.{values_of_view}
use Rattle.math_codec.proofs.ordered.map.Map.values.Goals as goal

pub returns : goal.returns
returns g c = c.deref.ensures.value ∙ values_of_view c.self.inside.keys.items c.self.inside.values.items c.args.self.now c.self.invariant.0 c.self.view_is
