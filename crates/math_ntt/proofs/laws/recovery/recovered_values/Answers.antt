use Rattle.math_base.proofs.Members.{ring_members}
use Rattle.math_ntt.proofs.RecoveredFromValues.{recovers-from_some, recovers-from_all}
use Rattle.math_ntt.proofs.laws.recovery.recovered_values.Goals as goal

pub returns-clause-all : goal.returns-clause-all
returns-clause-all g c =
    let F = g.met.F in
    let R = ring_members g.F.Multiplicative.product g.F.Debug.debug_output g.F.Object.same g.F.Object.NEVER_REFUSES g.F.Additive.zero g.F.Additive.sum g.F.Additive.negative g.F.Ring.one in
    recovers-from_all R F.Object.equality F.Additive.group F.Multiplicative.commutes F.Ring.ring F.Field.field g.F.FieldNTT.root g.F.FieldNTT.shift g.F.FieldNTT.MAX_LG_ROOT_ORDER F.FieldNTT.roots

pub returns-clause-some : goal.returns-clause-some
returns-clause-some g c =
    let F = g.met.F in
    let R = ring_members g.F.Multiplicative.product g.F.Debug.debug_output g.F.Object.same g.F.Object.NEVER_REFUSES g.F.Additive.zero g.F.Additive.sum g.F.Additive.negative g.F.Ring.one in
    recovers-from_some R F.Object.equality F.Additive.group F.Multiplicative.commutes F.Ring.ring F.Field.field g.F.FieldNTT.root g.F.FieldNTT.shift g.F.FieldNTT.MAX_LG_ROOT_ORDER F.FieldNTT.roots
