use Rattle.std.proofs.Common.{◌≡◌, ◌∙◌, ◌<◌, length, get_or, arith}
use Rattle.std.proofs.lemmas.List.{get_or_default}
use Rattle.math_base.proofs.Members.{ring_members}
use Rattle.shared_secret.proofs.CorrectedShares.{constant_at_zero}
use Rattle.shared_secret.proofs.correcting.constant.Goals as goal

pub returns : goal.returns
returns g c =
    let R = ring_members g.F.Multiplicative.product g.F.Debug.debug_output g.F.Object.same g.F.Object.NEVER_REFUSES g.F.Additive.zero g.F.Additive.sum g.F.Additive.negative g.F.Ring.one in
    let F = g.met.F in
    let some : 0 < length c.args.p.now = omega (arith, c.if-p-eq0.false) in
    let first : c.index-p-0.result ≡ get_or c.args.p.now 0 R.zero = c.index-p-0.is ∙ get_or_default c.args.p.now 0 c.index-p-0.result R.zero some in
    constant_at_zero R F.Object.equality F.Additive.group F.Multiplicative.commutes F.Ring.ring c.args.p.now c.in_ok-constant.constant (rw first at c.in_ok-constant.ensures.ok)
