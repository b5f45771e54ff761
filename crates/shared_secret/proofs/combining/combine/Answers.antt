use Rattle.std.proofs.Common.{◌≤◌, length, arith}
use Rattle.math_base.proofs.Members.{ring_members}
use Rattle.shared_secret.proofs.CombinedShares.{combinable, combined}
use Rattle.shared_secret.proofs.DealtShares.{combined-constant}
use Rattle.shared_secret.proofs.combining.combine.Goals as goal

pub returns-clause-combinable : goal.returns-clause-combinable
returns-clause-combinable g c =
    let R = ring_members g.F.Multiplicative.product g.F.Debug.debug_output g.F.Object.same g.F.Object.NEVER_REFUSES g.F.Additive.zero g.F.Additive.sum g.F.Additive.negative g.F.Ring.one in
    let F = g.met.F in
    let enough : c.args.t ≤ length c.args.shares.now = omega (arith, c.if-shares-t.false) in
    combinable R F.Object.equality F.Additive.group c.args.t c.args.shares.now c.in_ok-points.points.items enough c.in_ok-points.ensures.points c.in_ok-points.ensures.nonzero
    c.in_ok-points.ensures.apart

pub returns-clause-combined : goal.returns-clause-combined
returns-clause-combined g c =
    let R = ring_members g.F.Multiplicative.product g.F.Debug.debug_output g.F.Object.same g.F.Object.NEVER_REFUSES g.F.Additive.zero g.F.Additive.sum g.F.Additive.negative g.F.Ring.one in
    let F = g.met.F in
    combined R F.Object.equality F.Additive.group F.Multiplicative.commutes F.Ring.ring c.args.shares.now c.in_ok-points.points.items c.in_ok-values.values.items c.in_ok-weights.weights.items
    c.in_ok-secret.secret c.in_ok-points.ensures.points c.in_ok-values.ensures
    ((rw c.deref.ensures.value at c.in_ok-weights.ensures) c.in_ok-points.ensures.apart) (rw (c.deref-2.ensures.value, c.deref-3.ensures.value) at c.in_ok-secret.ensures.ok)

pub returns-clause-constant : goal.returns-clause-constant
returns-clause-constant g c = λ p l h.
    let R = ring_members g.F.Multiplicative.product g.F.Debug.debug_output g.F.Object.same g.F.Object.NEVER_REFUSES g.F.Additive.zero g.F.Additive.sum g.F.Additive.negative g.F.Ring.one in
    let F = g.met.F in
    combined-constant R F.Object.equality F.Additive.group F.Multiplicative.commutes F.Ring.ring p c.args.shares.now c.in_ok-secret.secret l h (returns-clause-combined g c)
