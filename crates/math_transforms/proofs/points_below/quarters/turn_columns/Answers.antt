use Rattle.std.proofs.Common.{◌+◌, ◌*◌, not, eqb, arith}
use Rattle.std.proofs.lemmas.List.{get_or_default}
use Rattle.math_base.proofs.Members.{ring_members}
use Rattle.math_transforms.proofs.TurnedCells.{turned-of}
use Rattle.math_transforms.proofs.TurnedColumns.{turned-more}
use Rattle.math_transforms.proofs.points_below.quarters.turn_columns.Goals as goal

pub loop-p-init : goal.loop-p-init
loop-p-init g c = c.in_ok-done.ensures.turned

pub loop-p-preserved : goal.loop-p-preserved
loop-p-preserved g c =
    let F = g.met.F in
    let R = ring_members g.F.Multiplicative.product g.F.Debug.debug_output g.F.Object.same g.F.Object.NEVER_REFUSES g.F.Additive.zero g.F.Additive.sum g.F.Additive.negative g.F.Ring.one in
    let forward = not (eqb g.row.FORWARD 0) in
    let rows = c.loop-p.rows in
    let cols = c.args.cols in
    let p = c.loop-p.p in
    turned-more R forward c.args.weights.now.e.now c.args.weights.now.f.now c.args.weights.now.g.now cols p c.args.rows.now rows _ _ _ _ (omega arith) (omega arith) c.loop-p.invariant _ _ _ _
    (get_or_default rows (p) c.index-rows-p.result R.zero (omega arith))
    (get_or_default rows (cols + p) c.index-rows-second.result R.zero (omega arith))
    (get_or_default rows (2 * cols + p) c.index-rows-third.result R.zero (omega arith))
    (get_or_default rows (3 * cols + p) c.index-rows-fourth.result R.zero (omega arith))
    (turned-of R F.Object.equality F.Additive.group F.Multiplicative.commutes F.Ring.ring forward _ _ _ _ _ _ _ _ _ _ _ _ _ _ _ c.in_ok-a.ensures.ok c.in_ok-b.ensures.ok c.in_ok-c.ensures.ok c.in_ok-d.ensures.ok c.in_ok-turn_by_products.ensures.turned)

pub turn_by_products-requires : goal.turn_by_products-requires
turn_by_products-requires g c =
    let E = g.met.F.Object.equality in
    let G = g.met.F.Additive.group in
    let P = g.met.F.Multiplicative.commutes in
    record {
      products = record {
        product = E.transitive _ _ _ c.in_ok-mul_assign.ensures.ok (P.respects _ _ _ _ c.in_ok-eg.ensures.ok (E.reflexive _));
        minus = E.transitive _ _ _ c.in_ok-minus_fg.ensures.ok
            (G.respects_negative _ _ (E.transitive _ _ _ c.in_ok-mul_assign-2.ensures.ok (P.respects _ _ _ _ c.in_ok-fg.ensures.ok (E.reflexive _))));
      };
    }

pub returns-clause-turned : goal.returns-clause-turned
returns-clause-turned g c = record { turned = λ p l. c.loop-p.invariant.turned p (omega arith) }

pub returns-then-done-cols-clause-turned : goal.returns-then-done-cols-clause-turned
returns-then-done-cols-clause-turned g c = record { turned = λ p l. c.in_ok-done.ensures.turned.turned p (omega (arith, l, c.if-done-cols.true)) }
