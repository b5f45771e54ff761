use Rattle.std.proofs.Common.{arith}
use Rattle.math_codec.proofs.MapParts.{length_of_view}
use Rattle.math_codec.proofs.ordered.map.Map.len.Goals as goal

pub returns : goal.returns
returns g c =
    let same = length_of_view c.self.inside.keys.items c.self.inside.values.items c.args.self.now c.self.invariant.0 c.self.view_is in
    omega arith
