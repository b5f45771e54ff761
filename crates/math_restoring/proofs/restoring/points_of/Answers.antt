use Rattle.std.proofs.Common.{◌+◌, sym, subst}
use Rattle.math_restoring.proofs.FilledPoints.{AreFilledBefore, filled-more}
use Rattle.math_restoring.proofs.restoring.points_of.Goals as goal

pub loop-t-preserved : goal.loop-t-preserved
loop-t-preserved c =
    let t = c.loop-t.t in
    subst (AreFilledBefore c.args.lg c.args.indices.now (t + 1)) (sym c.set_non_vanishing.ensures)
    (filled-more c.args.lg c.args.indices.now t c.loop-t.points c.requires.distinct c.loop-t-test.true (c.requires.below t 0 c.loop-t-test.true) c.loop-t.invariant)
