use Rattle.std.proofs.Common.{◌≡◌, length, take, vec_capacity}
use Rattle.std.specs.List.{AllZip}
use Rattle.math_poly.proofs.poly.Poly.commit.Given as goal

-- the coefficients so far, one for each scalar before the index, and the room for all
abbrev pub invariant-loop-scalar : goal.invariant-loop-scalar
invariant-loop-scalar g l = record {
  count : length l.coefficients.items ≡ l.scalar-index;
  room : vec_capacity l.coefficients ≡ length l.scalar-items;
  each : AllZip (λ scalar element. g.G.Object.same element (g.G.Space.scaling g.G.CryptoGroup.generator scalar)) (take l.scalar-index l.scalar-items) l.coefficients.items;
}
