use Rattle.math_base.proofs.Members.{ring_members}
use Rattle.shared_secret.proofs.ExplainedShares.{once, by_last, equally}
use Rattle.shared_secret.proofs.laws.each_secret_explains.Goals as goal

pub returns-clause-once : goal.returns-clause-once
returns-clause-once g c =
    let R = ring_members g.F.Multiplicative.product g.F.Debug.debug_output g.F.Object.same g.F.Object.NEVER_REFUSES g.F.Additive.zero g.F.Additive.sum g.F.Additive.negative g.F.Ring.one in
    let F = g.met.F in
    once R F.Object.equality F.Additive.group F.Multiplicative.commutes F.Ring.ring F.Field.field

pub returns-clause-last : goal.returns-clause-last
returns-clause-last g c =
    let R = ring_members g.F.Multiplicative.product g.F.Debug.debug_output g.F.Object.same g.F.Object.NEVER_REFUSES g.F.Additive.zero g.F.Additive.sum g.F.Additive.negative g.F.Ring.one in
    let F = g.met.F in
    by_last R F.Object.equality F.Additive.group F.Multiplicative.commutes F.Ring.ring F.Field.field

pub returns-clause-equally : goal.returns-clause-equally
returns-clause-equally g c =
    let R = ring_members g.F.Multiplicative.product g.F.Debug.debug_output g.F.Object.same g.F.Object.NEVER_REFUSES g.F.Additive.zero g.F.Additive.sum g.F.Additive.negative g.F.Ring.one in
    let F = g.met.F in
    equally R F.Object.equality F.Additive.group F.Multiplicative.commutes F.Ring.ring F.Field.field
