use Rattle.math_base.specs.Members.{SpaceOf}
use Rattle.math_base.proofs.Members.{ring_members}
use Rattle.shared_secret.proofs.DealtShares.{dealt_verified}
use Rattle.shared_secret.proofs.laws.dealt_are_verified.Goals as goal

pub returns : goal.returns
returns g c =
    let R = ring_members g.K.Scalar.Multiplicative.product g.K.Scalar.Debug.debug_output g.K.Scalar.Object.same g.K.Scalar.Object.NEVER_REFUSES g.K.Scalar.Additive.zero g.K.Scalar.Additive.sum
    g.K.Scalar.Additive.negative g.K.Scalar.Ring.one in
    let S : SpaceOf g.row.K.Denot g.row.K-Scalar.Denot = record {
      debug_output = g.K.Debug.debug_output;
      same = g.K.Object.same;
      NEVER_REFUSES = g.K.Object.NEVER_REFUSES;
      zero = g.K.Additive.zero;
      sum = g.K.Additive.sum;
      negative = g.K.Additive.negative;
      scaling = g.K.Space.scaling;
    } in
    let K = g.met.K in
    let F = K.Scalar in
    dealt_verified R F.Object.equality F.Additive.group F.Multiplicative.commutes F.Ring.ring S K.Object.equality K.Additive.group K.Space.spans g.K.CryptoGroup.generator
