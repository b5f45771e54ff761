use Rattle.math_base.proofs.Members.{ring_members}
use Rattle.shared_secret.proofs.RefusedShares.{exclude}
use Rattle.shared_secret.proofs.laws.refusals_exclude.Goals as goal

pub returns : goal.returns
returns g c =
    let R = ring_members g.F.Multiplicative.product g.F.Debug.debug_output g.F.Object.same g.F.Object.NEVER_REFUSES g.F.Additive.zero g.F.Additive.sum g.F.Additive.negative g.F.Ring.one in
    let F = g.met.F in
    exclude R F.Object.equality F.Additive.group
