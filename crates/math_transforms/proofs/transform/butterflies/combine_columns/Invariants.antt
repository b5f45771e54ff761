use Rattle.std.proofs.Common.{not, eqb}
use Rattle.math_base.proofs.Members.{ring_members}
use Rattle.math_base.specs.Columns.{AreCombinedBelow}
use Rattle.math_transforms.proofs.transform.butterflies.combine_columns.Given as goal

-- the columns so far are combined
abbrev pub invariant-loop-p : goal.invariant-loop-p
invariant-loop-p g l =
    let R = ring_members g.F.Multiplicative.product g.F.Debug.debug_output g.F.Object.same g.F.Object.NEVER_REFUSES g.F.Additive.zero g.F.Additive.sum g.F.Additive.negative g.F.Ring.one in
    AreCombinedBelow R (not (eqb g.row.FORWARD 0)) l.w l.cols l.p l.fn.rows l.rows
