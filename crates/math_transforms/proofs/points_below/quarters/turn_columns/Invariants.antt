use Rattle.std.proofs.Common.{not, eqb}
use Rattle.math_base.proofs.Members.{ring_members}
use Rattle.math_base.specs.Columns.{AreTurnedBelow}
use Rattle.math_transforms.proofs.points_below.quarters.turn_columns.Given as goal

-- the columns so far are turned
abbrev pub invariant-loop-p : goal.invariant-loop-p
invariant-loop-p g l =
    let R = ring_members g.F.Multiplicative.product g.F.Debug.debug_output g.F.Object.same g.F.Object.NEVER_REFUSES g.F.Additive.zero g.F.Additive.sum g.F.Additive.negative g.F.Ring.one in
    AreTurnedBelow R (not (eqb g.row.FORWARD 0)) l.weights.e.now l.weights.f.now l.weights.g.now l.cols l.p l.fn.rows l.rows
