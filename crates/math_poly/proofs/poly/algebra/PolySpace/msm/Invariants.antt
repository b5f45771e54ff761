use Rattle.std.proofs.Common.{◌≡◌, ℕ, ◌<◌, [], ◌∷◌, length}
use Rattle.math_theory.specs.Sums.{weighted_sum}
use Rattle.math_theory.specs.Coefficients.{coefficient, polynomial_sum, polynomial_multiple}
use Rattle.math_poly.proofs.poly.algebra.PolySpace.msm.Given as goal

-- the coefficients so far are those of the weighted sum
abbrev pub invariant-loop-i : goal.invariant-loop-i
invariant-loop-i g l = record {
  count : length l.coefficients.items ≡ l.i;
  coefficients : (k : ℕ) → k < l.i → g.K.Object.same (coefficient g.K.Additive.zero l.coefficients.items k)
      (coefficient g.K.Additive.zero (weighted_sum (g.K.Additive.zero ∷ []) (polynomial_sum g.K.Additive.sum) (polynomial_multiple g.K.Space.scaling) l.weighted l.scalars) k);
}
