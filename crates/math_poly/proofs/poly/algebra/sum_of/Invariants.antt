use Rattle.std.proofs.Common.{◌≡◌, length, take}
use Rattle.math_theory.specs.Coefficients.{HaveSameCoefficients, polynomial_sum}
use Rattle.math_poly.proofs.poly.algebra.sum_of.Given as goal

-- the sum of the copy and of what is taken of the shorter list
abbrev pub invariant-loop-i : goal.invariant-loop-i
invariant-loop-i g l = record {
  sum : HaveSameCoefficients g.K.Object.same g.K.Additive.zero l.out.items (polynomial_sum g.K.Additive.sum l.initial.out.items (take l.i l.addend-items));
  count : length l.out.items ≡ length l.initial.out.items;
}
