use Rattle.std.proofs.Common.{◌*◌, not, eqb}
use Rattle.math_fields.specs.Elements.{goldilocks}
use Rattle.math_base.specs.Columns.{AreCombinedBelow}
use Rattle.math_fields.proofs.goldilocks.columns.combine_eights.Given as goal

-- the columns so far are combined
abbrev pub invariant-loop-k : goal.invariant-loop-k
invariant-loop-k g l = AreCombinedBelow goldilocks (not (eqb g.row.FORWARD 0)) l.w l.cols (8 * l.k) l.initial.rows l.rows
