use Rattle.std.proofs.Common.{not, eqb, arith}
use Rattle.std.proofs.lemmas.List.{get_or_default}
use Rattle.math_base.proofs.Members.{ring_members}
use Rattle.math_transforms.proofs.TurnedCells.{turned-of}
use Rattle.math_transforms.proofs.TurnedColumns.{turned-more, turned-none}
use Rattle.math_transforms.proofs.points_below.quarters.turn_cells.Goals as goal

pub returns-clause-turned : goal.returns-clause-turned
returns-clause-turned g c =
    let F = g.met.F in
    let R = ring_members g.F.Multiplicative.product g.F.Debug.debug_output g.F.Object.same g.F.Object.NEVER_REFUSES g.F.Additive.zero g.F.Additive.sum g.F.Additive.negative g.F.Ring.one in
    let forward = not (eqb g.row.FORWARD 0) in
    let rows = c.args.rows.now in
    let e = c.args.weights.now.e.now in
    let f = c.args.weights.now.f.now in
    let g' = c.args.weights.now.g.now in
    let column = turned-more R forward e f g' 1 0 rows rows _ _ _ _ (omega arith) c.requires.size (turned-none R forward e f g' 1 rows) _ _ _ _
    (get_or_default rows (0) c.index-rows-0.result R.zero (omega arith))
    (get_or_default rows (1) c.index-rows-1.result R.zero (omega arith))
    (get_or_default rows (2) c.index-rows-2.result R.zero (omega arith))
    (get_or_default rows (3) c.index-rows-3.result R.zero (omega arith))
    (turned-of R F.Object.equality F.Additive.group F.Multiplicative.commutes F.Ring.ring forward _ _ _ _ _ _ _ _ _ _ _ _ _ _ _ c.in_ok-a.ensures.ok c.in_ok-b.ensures.ok c.in_ok-c.ensures.ok c.in_ok-d.ensures.ok c.in_ok-turn_by_weights.ensures.turned) in
    record { turned = column.turned }
