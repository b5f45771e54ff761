use Rattle.std.proofs.Common.{◌≡◌, rules}
use Rattle.math_theory.specs.Powers.{multiple, power-zero}
use Rattle.math_theory.specs.Sums.{number_of_limbs}
use Rattle.math_poly.proofs.Coefficientwise.{same_as_map}
use Rattle.math_poly.proofs.PolynomialMultiples.{map_is_multiple}
use Rattle.math_poly.proofs.poly.algebra.PolyAdditive.scale.Goals as goal

pub returns-then-all_zero-clause-ok : goal.returns-then-all_zero-clause-ok
returns-then-all_zero-clause-ok g c =
    let n : number_of_limbs c.args.bits_le.now ≡ 0 = c.all_zero.ensures.0 c.if-all_zero.true in
    rw (n, power-zero) c.in_ok-zero.ensures.ok

pub returns-clause-ok : goal.returns-clause-ok
returns-clause-ok g c =
    let n = number_of_limbs c.args.bits_le.now in
    map_is_multiple g.met.K.Object.equality g.met.K.Additive.group _ _ n
    (same_as_map g.K.Additive.zero g.met.K.Object.equality (λ a. multiple g.K.Additive.zero g.K.Additive.sum a n) (λ a b k. search rules) _ _ c.in_ok-out.ensures.each)
