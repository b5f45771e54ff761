use Rattle.std.proofs.Common.{IsTrue}
use Rattle.math_base.proofs.Members.{ring_members}
use Rattle.shared_secret.specs.Shares.{point}
use Rattle.shared_secret.proofs.DealingSteps.{answer_alike, value_alike}
use Rattle.shared_secret.proofs.verifying.verify.Goals as goal

pub returns : goal.returns
returns g c =
    let R = ring_members g.K.Scalar.Multiplicative.product g.K.Scalar.Debug.debug_output g.K.Scalar.Object.same g.K.Scalar.Object.NEVER_REFUSES g.K.Scalar.Additive.zero g.K.Scalar.Additive.sum
    g.K.Scalar.Additive.negative g.K.Scalar.Ring.one in
    let K = g.met.K in
    let E = K.Object.equality in
    let share = c.args.share.now in
    let scaled = E.transitive _ _ _ c.in_ok-scale_assign.ensures.ok (K.Space.spans.respects_points _ _ share.value c.in_ok-scaled.ensures.ok) in
    let committed = value_alike E K.Additive.group K.Space.spans K.Scalar.Object.equality K.Scalar.Multiplicative.commutes c.args.commitment.now c.in_ok-x.x (point R share.index)
    c.in_ok-committed.committed c.in_ok-x.ensures.ok c.in_ok-committed.ensures.ok in
    answer_alike E (IsTrue c.in_ok-answer.answer) _ _ _ _ scaled committed c.in_ok-answer.ensures.ok
