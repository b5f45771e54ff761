use Rattle.math_base.proofs.Members.{ring_members}
use Rattle.shared_secret.proofs.WeighedShares.{weights-at-zero}
use Rattle.shared_secret.proofs.combining.weights_at_zero.Goals as goal

pub returns : goal.returns
returns g c = λ apart.
    let R = ring_members g.F.Multiplicative.product g.F.Debug.debug_output g.F.Object.same g.F.Object.NEVER_REFUSES g.F.Additive.zero g.F.Additive.sum g.F.Additive.negative g.F.Ring.one in
    let F = g.met.F in
    weights-at-zero R F.Object.equality F.Additive.group F.Multiplicative.commutes F.Ring.ring c.in_ok-zero.zero c.args.points.now c.in_ok-weights.weights.items c.in_ok-zero.ensures.ok
    (c.in_ok-weights.ensures.weights apart)
