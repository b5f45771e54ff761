use Rattle.std.proofs.Common.{◌+◌, not, eqb, arith}
use Rattle.std.proofs.lemmas.List.{get_or_default}
use Rattle.math_base.proofs.Members.{ring_members}
use Rattle.math_transforms.proofs.CombinedPairs.{combined-more}
use Rattle.math_transforms.proofs.TurnedCells.{combined-of}
use Rattle.math_transforms.proofs.transform.butterflies.combine_columns.Goals as goal

pub loop-p-init : goal.loop-p-init
loop-p-init g c = c.in_ok-done.ensures.combined

pub loop-p-preserved : goal.loop-p-preserved
loop-p-preserved g c =
    let F = g.met.F in
    let R = ring_members g.F.Multiplicative.product g.F.Debug.debug_output g.F.Object.same g.F.Object.NEVER_REFUSES g.F.Additive.zero g.F.Additive.sum g.F.Additive.negative g.F.Ring.one in
    let rows = c.loop-p.rows in
    let p = c.loop-p.p in
    combined-more R (not (eqb g.row.FORWARD 0)) c.args.w.now c.args.cols p c.args.rows.now rows _ _ (omega arith) (omega arith) c.loop-p.invariant _ _
    (get_or_default rows p c.index-rows-p.result R.zero (omega arith))
    (get_or_default rows (c.args.cols + p) c.index-rows-second.result R.zero (omega arith))
    (combined-of R F.Object.equality F.Additive.group F.Multiplicative.commutes F.Ring.ring (not (eqb g.row.FORWARD 0)) _ _ _ _ _ _ _ c.in_ok-low.ensures.ok c.in_ok-high.ensures.ok c.in_ok-combine.ensures.combined)

pub returns-clause-combined : goal.returns-clause-combined
returns-clause-combined g c = record { combined = λ p l. c.loop-p.invariant.combined p (omega arith) }
