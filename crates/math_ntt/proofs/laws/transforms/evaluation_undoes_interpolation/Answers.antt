use Rattle.math_base.proofs.Members.{ring_members}
use Rattle.math_ntt.proofs.OneColumn.{values-once}
use Rattle.math_ntt.proofs.laws.transforms.evaluation_undoes_interpolation.Goals as goal

pub returns : goal.returns
returns g c =
    let R = ring_members g.F.Multiplicative.product g.F.Debug.debug_output g.F.Object.same g.F.Object.NEVER_REFUSES g.F.Additive.zero g.F.Additive.sum g.F.Additive.negative g.F.Ring.one in
    values-once R g.met.F.Object.equality g.F.FieldNTT.root
