use Rattle.std.proofs.Common.{◌+◌, ◌*◌, not, eqb, arith}
use Rattle.std.proofs.lemmas.List.{get_or_default}
use Rattle.math_base.proofs.Members.{ring_members}
use Rattle.math_transforms.proofs.TurnedCells.{turned-by, turned-of}
use Rattle.math_transforms.proofs.TurnedColumns.{either-of, turned-more}
use Rattle.math_transforms.proofs.points_below.quarters.turn_columns_at_one.Goals as goal

pub loop-p-init : goal.loop-p-init
loop-p-init g c = c.in_ok-done.ensures.turned

pub loop-p-preserved : goal.loop-p-preserved
loop-p-preserved g c =
    let F = g.met.F in
    let R = ring_members g.F.Multiplicative.product g.F.Debug.debug_output g.F.Object.same g.F.Object.NEVER_REFUSES g.F.Additive.zero g.F.Additive.sum g.F.Additive.negative g.F.Ring.one in
    let forward = not (eqb g.row.FORWARD 0) in
    let rows = c.loop-p.rows in
    let cols = c.args.cols in
    let p = c.loop-p.p in
    turned-more R forward c.args.weights.now.e.now c.args.weights.now.f.now c.args.weights.now.g.now cols p c.args.rows.now rows _ _ _ _ (omega arith) (omega arith) c.loop-p.invariant _ _ _ _
    (get_or_default rows (p) c.index-rows-p.result R.zero (omega arith))
    (get_or_default rows (cols + p) c.index-rows-second.result R.zero (omega arith))
    (get_or_default rows (2 * cols + p) c.index-rows-third.result R.zero (omega arith))
    (get_or_default rows (3 * cols + p) c.index-rows-fourth.result R.zero (omega arith))
    (turned-of R F.Object.equality F.Additive.group F.Multiplicative.commutes F.Ring.ring forward _ _ _ _ _ _ _ _ _ _ _ _ _ _ _ c.in_ok-a.ensures.ok c.in_ok-b.ensures.ok c.in_ok-c.ensures.ok c.in_ok-d.ensures.ok
    (turned-by R F.Object.equality F.Additive.group F.Multiplicative.commutes F.Ring.ring forward R.one c.args.weights.now.e.now c.args.weights.now.f.now c.args.weights.now.f.now R.one c.args.weights.now.g.now _ _ _ _ _ _ _ _
    (F.Object.equality.symmetric _ _ c.requires.below) (F.Object.equality.reflexive _) (F.Object.equality.symmetric _ _ c.requires.here) c.in_ok-turn_at_one.ensures.turned))

pub returns-clause-turned : goal.returns-clause-turned
returns-clause-turned g c = record { turned = λ p l. c.loop-p.invariant.turned p (omega arith) }

pub turn_at_one-requires-clause-root : goal.turn_at_one-requires-clause-root
turn_at_one-requires-clause-root g c =
    let F = g.met.F in
    let E = F.Object.equality in
    either-of g.F.Object.same (not (eqb g.row.FORWARD 0)) c.args.weights.now.f.now (g.F.FieldNTT.root 2) (g.F.Field.inverse (g.F.FieldNTT.root 2))
    (E.transitive _ _ _ c.requires.odd (E.transitive _ _ _ (F.Multiplicative.commutes.respects _ _ _ _ c.requires.below (E.reflexive _)) (F.Ring.ring.identity _)))
