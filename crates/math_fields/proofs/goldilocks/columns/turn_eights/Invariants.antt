use Rattle.std.proofs.Common.{◌*◌, not, eqb, if◌then◌else◌}
use Rattle.math_fields.specs.declared.goldilocks.F.{F}
use Rattle.math_fields.specs.Elements.{goldilocks, inverse, product, root_of, same}
use Rattle.math_base.specs.Columns.{AreTurnedBelow}
use Rattle.math_fields.proofs.goldilocks.columns.turn_eights.Given as goal

-- the columns so far are turned
abbrev pub invariant-loop-k : goal.invariant-loop-k
invariant-loop-k g l = (f : F) → same f (product l.weights.e (if not (eqb g.row.FORWARD 0) then root_of 2 else inverse (root_of 2)))
    → AreTurnedBelow goldilocks (not (eqb g.row.FORWARD 0)) l.weights.e f l.weights.g l.cols (8 * l.k) l.initial.rows l.rows
