use Rattle.std.proofs.Common.{◌++◌, [], ◌∷◌, length}
use Rattle.math_theory.specs.Values.{value_over}
use Rattle.math_poly.proofs.poly.evaluation.horner_by_fours.Given as goal

-- what is left with the number that is made as its last coefficient has the value
abbrev pub invariant-loop-front : goal.invariant-loop-front
invariant-loop-front g l =
    g.K.Object.same (value_over g.K.Additive.zero g.K.Additive.sum g.K.Space.scaling g.R.Ring.one g.R.Multiplicative.product l.r (l.front ++ l.out ∷ []))
    (value_over g.K.Additive.zero g.K.Additive.sum g.K.Space.scaling g.R.Ring.one g.R.Multiplicative.product l.r (l.coefficients ++ l.fn.last ∷ []))

abbrev pub decreases-loop-front : goal.decreases-loop-front
decreases-loop-front g l = length l.front
