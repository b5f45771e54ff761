use Rattle.std.proofs.Common.{rules}
use Rattle.std.proofs.lemmas.List.{map-id}
use Rattle.math_poly.proofs.Coefficientwise.{same_as_map}
use Rattle.math_poly.proofs.poly.algebra.PolyObject.clone.Goals as goal

pub returns-clause-ok : goal.returns-clause-ok
returns-clause-ok g c =
    rw (map-id c.args.self.now) at (same_as_map g.K.Additive.zero g.met.K.Object.equality (λ a. a) (λ a b k. search rules) c.args.self.now _ c.in_ok-copy.ensures.each)
