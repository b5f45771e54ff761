use Rattle.std.proofs.Common.{◌≡◌, ◌+◌, length, take, suc}
use Rattle.math_theory.specs.Coefficients.{HaveSameCoefficients, polynomial_difference, polynomial_product}
use Rattle.math_decoding.proofs.euclid.less_product.Given as goal

-- p less the first j coefficients of q times d
abbrev pub invariant-loop-j : goal.invariant-loop-j
invariant-loop-j g l = record {
  count : suc (length l.out.items) ≡ length l.d + l.j;
  less : HaveSameCoefficients g.F.Object.same g.F.Additive.zero l.out.items (polynomial_difference g.F.Additive.sum g.F.Additive.negative l.p
      (polynomial_product g.F.Additive.zero g.F.Additive.sum g.F.Multiplicative.product (take l.j l.q) l.d));
}
