use Rattle.math_base.proofs.Members.{ring_members}
use Rattle.math_ntt.proofs.OneColumn.{polynomial-once}
use Rattle.math_ntt.proofs.laws.transforms.interpolation_undoes_evaluation.Goals as goal

pub returns : goal.returns
returns g c =
    let R = ring_members g.F.Multiplicative.product g.F.Debug.debug_output g.F.Object.same g.F.Object.NEVER_REFUSES g.F.Additive.zero g.F.Additive.sum g.F.Additive.negative g.F.Ring.one in
    let F = g.met.F in
    polynomial-once R F.Object.equality F.Additive.group F.Multiplicative.commutes F.Ring.ring F.Field.field F.FieldNTT.roots
