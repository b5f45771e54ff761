use Rattle.std.proofs.Common.{◌≡◌, ◌≤◌, length, arith}
use Rattle.math_base.proofs.Members.{ring_members}
use Rattle.shared_secret.specs.Weights.{AreWeightsAtPoints}
use Rattle.shared_secret.proofs.CombinedShares.{alike_points, combinable}
use Rattle.shared_secret.proofs.CorrectedShares.{point_count}
use Rattle.shared_secret.proofs.WeighedShares.{moved-further, moved-secret}
use Rattle.shared_secret.specs.Shares.{points}
use Rattle.shared_secret.proofs.weighing.weigh.Goals as goal

pub weigh_points-requires-clause-enough : goal.weigh_points-requires-clause-enough
weigh_points-requires-clause-enough g c =
    let R = ring_members g.F.Multiplicative.product g.F.Debug.debug_output g.F.Object.same g.F.Object.NEVER_REFUSES g.F.Additive.zero g.F.Additive.sum g.F.Additive.negative g.F.Ring.one in
    let F = g.met.F in
    let count : length c.in_ok-points.points.items ≡ length c.args.shares.now =
    point_count R F.Object.equality F.Additive.group c.args.shares.now c.in_ok-points.points.items c.in_ok-points.ensures.points in
    rw c.deref.ensures.value (omega (arith, c.if-shares-t.false, count))

pub returns-clause-weights : goal.returns-clause-weights
returns-clause-weights g c =
    let R = ring_members g.F.Multiplicative.product g.F.Debug.debug_output g.F.Object.same g.F.Object.NEVER_REFUSES g.F.Additive.zero g.F.Additive.sum g.F.Additive.negative g.F.Ring.one in
    let F = g.met.F in
    let shares = c.args.shares.now in
    let xs = c.in_ok-points.points.items in
    let enough : c.args.t ≤ length shares = omega (arith, c.if-shares-t.false) in
    let alike = alike_points R F.Object.equality F.Additive.group shares xs c.in_ok-points.ensures.points in
    let at : AreWeightsAtPoints R c.args.t xs c.in_ok-out.out = rw c.deref.ensures.value at c.in_ok-out.ensures in
    record {
      combinable = combinable R F.Object.equality F.Additive.group c.args.t shares xs enough c.in_ok-points.ensures.points c.in_ok-points.ensures.nonzero c.in_ok-points.ensures.apart;
      at_points = record {
        secret = moved-secret R F.Object.equality F.Additive.group F.Multiplicative.commutes F.Ring.ring c.args.t xs (points R shares) c.in_ok-out.out.secret.items alike at.secret;
        further = moved-further R F.Object.equality F.Additive.group F.Multiplicative.commutes F.Ring.ring (λ w. w.items) c.args.t xs (points R shares) c.in_ok-out.out.further.items alike
            at.further;
      };
    }
