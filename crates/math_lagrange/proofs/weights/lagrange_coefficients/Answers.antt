use Rattle.math_theory.proofs.interpolation.WeightsRespect.{weights_at-respects}
use Rattle.math_lagrange.proofs.weights.lagrange_coefficients.Goals as goal

pub returns-clause-weights : goal.returns-clause-weights
returns-clause-weights g c = λ lg h.
    let F = g.met.F in
    weights_at-respects F.Object.equality F.Additive.group F.Multiplicative.commutes F.Ring.ring c.in_ok-zero.zero g.F.Additive.zero c.in_ok-zero.ensures.ok _ _ (c.in_ok-out.ensures.weights lg h)
