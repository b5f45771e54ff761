use Rattle.math_base.proofs.Members.{ring_members}
use Rattle.shared_secret.proofs.DealtShares.{any_combine}
use Rattle.shared_secret.proofs.laws.any_shares_combine.Goals as goal

pub returns : goal.returns
returns g c =
    let F = g.met.F in
    let R = ring_members g.F.Multiplicative.product g.F.Debug.debug_output g.F.Object.same g.F.Object.NEVER_REFUSES g.F.Additive.zero g.F.Additive.sum g.F.Additive.negative g.F.Ring.one in
    any_combine R F.Object.equality F.Additive.group F.Multiplicative.commutes F.Ring.ring
