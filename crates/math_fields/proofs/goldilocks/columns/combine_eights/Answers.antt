use Rattle.std.proofs.Common.{◌≡◌, ◌+◌, ◌*◌, ◌/◌, not, eqb, subst, arith}
use Rattle.math_fields.specs.Elements.{goldilocks}
use Rattle.math_base.specs.Columns.{AreCombinedBelow}
use Rattle.math_fields.proofs.EightColumns.{columns_combined, no_column_combined}
use Rattle.math_fields.proofs.goldilocks.columns.combine_eights.Goals as goal

pub loop-k-init : goal.loop-k-init
loop-k-init g c = no_column_combined goldilocks (not (eqb g.row.FORWARD 0)) c.args.cols c.args.w c.args.rows.now

pub loop-k-preserved : goal.loop-k-preserved
loop-k-preserved g c =
    let forward = not (eqb g.row.FORWARD 0) in
    let k = c.loop-k.k in
    let next : 8 * k + 8 ≡ 8 * (k + 1) = omega arith in
    subst (λ n. AreCombinedBelow goldilocks forward c.args.w c.args.cols n c.args.rows.now c.combine_eight.new.rows) next
    (columns_combined goldilocks forward c.args.cols c.args.w (8 * k) 8 c.args.rows.now c.loop-k.rows c.combine_eight.new.rows (omega arith) c.loop-k.invariant c.combine_eight.ensures)

pub returns-clause-combined : goal.returns-clause-combined
returns-clause-combined g c =
    let all : 8 * c.loop-k.k ≡ 8 * (c.args.cols / 8) = omega arith in
    subst (λ n. AreCombinedBelow goldilocks (not (eqb g.row.FORWARD 0)) c.args.w c.args.cols n c.args.rows.now c.loop-k.rows) all c.loop-k.invariant
