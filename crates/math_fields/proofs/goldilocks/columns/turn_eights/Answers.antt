use Rattle.std.proofs.Common.{◌≡◌, ◌+◌, ◌*◌, ◌/◌, not, eqb, subst, arith}
use Rattle.math_fields.specs.Elements.{goldilocks}
use Rattle.math_base.specs.Columns.{AreTurnedBelow}
use Rattle.math_fields.proofs.EightColumns.{columns_turned, no_column_turned}
use Rattle.math_fields.proofs.goldilocks.columns.turn_eights.Goals as goal

pub loop-k-init : goal.loop-k-init
loop-k-init g c = λ f odd. no_column_turned goldilocks (not (eqb g.row.FORWARD 0)) c.args.cols c.args.weights.e f c.args.weights.g c.args.rows.now

pub loop-k-preserved : goal.loop-k-preserved
loop-k-preserved g c = λ f odd.
    let forward = not (eqb g.row.FORWARD 0) in
    let W = c.args.weights in
    let k = c.loop-k.k in
    let next : 8 * k + 8 ≡ 8 * (k + 1) = omega arith in
    subst (λ n. AreTurnedBelow goldilocks forward W.e f W.g c.args.cols n c.args.rows.now c.turn_eight.new.rows) next
    (columns_turned goldilocks forward c.args.cols W.e f W.g (8 * k) 8 c.args.rows.now c.loop-k.rows c.turn_eight.new.rows (omega arith) (c.loop-k.invariant f odd) (c.turn_eight.ensures f odd))

pub returns-clause-turned : goal.returns-clause-turned
returns-clause-turned g c = λ f odd.
    let all : 8 * c.loop-k.k ≡ 8 * (c.args.cols / 8) = omega arith in
    subst (λ n. AreTurnedBelow goldilocks (not (eqb g.row.FORWARD 0)) c.args.weights.e f c.args.weights.g c.args.cols n c.args.rows.now c.loop-k.rows) all (c.loop-k.invariant f odd)
