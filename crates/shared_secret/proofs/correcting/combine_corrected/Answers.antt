use Rattle.std.proofs.Common.{◌≡◌, ◌∙◌, ◌≤◌, length, sym, arith}
use Rattle.math_base.proofs.Members.{ring_members}
use Rattle.shared_secret.proofs.CombinedShares.{combinable}
use Rattle.shared_secret.proofs.CorrectedShares.{point_count, value_count, corrected, none-corrected}
use Rattle.shared_secret.proofs.correcting.combine_corrected.Goals as goal

pub decode-requires-clause-lengths : goal.decode-requires-clause-lengths
decode-requires-clause-lengths g c =
    let R = ring_members g.F.Multiplicative.product g.F.Debug.debug_output g.F.Object.same g.F.Object.NEVER_REFUSES g.F.Additive.zero g.F.Additive.sum g.F.Additive.negative g.F.Ring.one in
    let F = g.met.F in
    rw (c.deref.ensures.value, c.deref-2.ensures.value)
    (value_count R F.Object.equality F.Additive.group c.args.shares.now c.in_ok-values.values.items c.in_ok-values.ensures
    ∙ sym (point_count R F.Object.equality F.Additive.group c.args.shares.now c.in_ok-points.points.items c.in_ok-points.ensures.points))

pub decode-requires-clause-count : goal.decode-requires-clause-count
decode-requires-clause-count g c =
    let R = ring_members g.F.Multiplicative.product g.F.Debug.debug_output g.F.Object.same g.F.Object.NEVER_REFUSES g.F.Additive.zero g.F.Additive.sum g.F.Additive.negative g.F.Ring.one in
    let F = g.met.F in
    let count : length c.in_ok-points.points.items ≡ length c.args.shares.now =
    point_count R F.Object.equality F.Additive.group c.args.shares.now c.in_ok-points.points.items c.in_ok-points.ensures.points in
    rw c.deref.ensures.value (omega (arith, c.if-shares-t.false, count))

pub returns-in_default-clause-combinable : goal.returns-in_default-clause-combinable
returns-in_default-clause-combinable g c =
    let R = ring_members g.F.Multiplicative.product g.F.Debug.debug_output g.F.Object.same g.F.Object.NEVER_REFUSES g.F.Additive.zero g.F.Additive.sum g.F.Additive.negative g.F.Ring.one in
    let F = g.met.F in
    let enough : c.args.t ≤ length c.args.shares.now = omega (arith, c.if-shares-t.false) in
    combinable R F.Object.equality F.Additive.group c.args.t c.args.shares.now c.in_ok-points.points.items enough c.in_ok-points.ensures.points c.in_ok-points.ensures.nonzero
    c.in_ok-points.ensures.apart

pub returns-in_default-clause-none : goal.returns-in_default-clause-none
returns-in_default-clause-none g c =
    let R = ring_members g.F.Multiplicative.product g.F.Debug.debug_output g.F.Object.same g.F.Object.NEVER_REFUSES g.F.Additive.zero g.F.Additive.sum g.F.Additive.negative g.F.Ring.one in
    let F = g.met.F in
    none-corrected R F.Object.equality F.Additive.group F.Multiplicative.commutes F.Ring.ring c.args.t c.args.shares.now c.in_ok-points.points.items c.in_ok-values.values.items
    c.in_ok-points.ensures.points c.in_ok-values.ensures (rw (c.in_default.is, c.deref.ensures.value, c.deref-2.ensures.value) at c.in_ok-found.ensures.none)

pub returns-clause-combinable : goal.returns-clause-combinable
returns-clause-combinable g c =
    let R = ring_members g.F.Multiplicative.product g.F.Debug.debug_output g.F.Object.same g.F.Object.NEVER_REFUSES g.F.Additive.zero g.F.Additive.sum g.F.Additive.negative g.F.Ring.one in
    let F = g.met.F in
    let enough : c.args.t ≤ length c.args.shares.now = omega (arith, c.if-shares-t.false) in
    combinable R F.Object.equality F.Additive.group c.args.t c.args.shares.now c.in_ok-points.points.items enough c.in_ok-points.ensures.points c.in_ok-points.ensures.nonzero
    c.in_ok-points.ensures.apart

pub returns-clause-found : goal.returns-clause-found
returns-clause-found g c =
    let R = ring_members g.F.Multiplicative.product g.F.Debug.debug_output g.F.Object.same g.F.Object.NEVER_REFUSES g.F.Additive.zero g.F.Additive.sum g.F.Additive.negative g.F.Ring.one in
    let F = g.met.F in
    corrected R F.Object.equality F.Additive.group F.Multiplicative.commutes F.Ring.ring c.args.t c.args.shares.now c.in_ok-points.points.items c.in_ok-values.values.items
    c.in-Some.found.coefficients.items c.in-Some.found.wrong.items c.in_ok-secret.secret c.in_ok-points.ensures.points c.in_ok-values.ensures
    (rw (c.in-Some.is, c.deref.ensures.value, c.deref-2.ensures.value) at c.in_ok-found.ensures.found) (rw c.deref-3.ensures.value at c.in_ok-secret.ensures)
