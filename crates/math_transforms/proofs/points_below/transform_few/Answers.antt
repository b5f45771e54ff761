use Rattle.std.proofs.Common.{◌*◌, length, not, eqb, refl, rules, arith}
use Rattle.math_base.proofs.Members.{ring_members}
use Rattle.math_transforms.proofs.BelowSteps.{all-steps, no-steps, some-level}
use Rattle.math_transforms.proofs.Levels.{adds-all, adds-twice}
use Rattle.math_transforms.proofs.StepsBelow.{all-done, few-done}
use Rattle.math_transforms.proofs.points_below.transform_few.Goals as goal

pub returns-then-count-cols-clause-done : goal.returns-then-count-cols-clause-done
returns-then-count-cols-clause-done g c =
    let F = g.met.F in
    let R = ring_members g.F.Multiplicative.product g.F.Debug.debug_output g.F.Object.same g.F.Object.NEVER_REFUSES g.F.Additive.zero g.F.Additive.sum g.F.Additive.negative g.F.Ring.one in
    few-done R F.Object.equality F.Additive.group F.Multiplicative.commutes F.Ring.ring F.Field.field F.FieldNTT.roots (not (eqb g.row.FORWARD 0)) c.args.points.now c.requires.points c.args.cols c.args.cells.now c.requires.size c.if-count-cols.true

pub returns-then-count-cols-clause-counted : goal.returns-then-count-cols-clause-counted
returns-then-count-cols-clause-counted g c =
    adds-all _ _ _ _ (omega (arith, no-steps c.args.points.now.lg c.args.cols (length c.args.cells.now) c.requires.size c.if-count-cols.true)) refl

pub step-requires-clause-room : goal.step-requires-clause-room
step-requires-clause-room g c = omega (arith, c.requires.room, all-steps c.args.points.now.lg c.args.cols (length c.args.cells.now) c.requires.size)

pub returns-in_err-step-clause-counted : goal.returns-in_err-step-clause-counted
returns-in_err-step-clause-counted g c = record {
  all = search rules;
  bounded = adds-twice (c.args.points.now.lg * length c.args.cells.now) _ _ _ (omega (arith, all-steps c.args.points.now.lg c.args.cols (length c.args.cells.now) c.requires.size)) c.step.ensures.counted c.step.ensures.root_products;
  some = search rules;
}

pub returns-clause-counted : goal.returns-clause-counted
returns-clause-counted g c =
    adds-all _ _ _ _ (omega (arith, c.step.ensures.counted, all-steps c.args.points.now.lg c.args.cols (length c.args.cells.now) c.requires.size)) c.step.ensures.root_products

pub returns-clause-done : goal.returns-clause-done
returns-clause-done g c =
    let F = g.met.F in
    let R = ring_members g.F.Multiplicative.product g.F.Debug.debug_output g.F.Object.same g.F.Object.NEVER_REFUSES g.F.Additive.zero g.F.Additive.sum g.F.Additive.negative g.F.Ring.one in
    all-done R F.Object.equality F.Additive.group F.Multiplicative.commutes F.Ring.ring F.Field.field F.FieldNTT.roots (not (eqb g.row.FORWARD 0)) c.args.points.now c.requires.points c.args.cols
    (some-level c.args.points.now.lg c.args.cols (length c.args.cells.now) c.requires.size c.if-count-cols.false) c.requires.few c.args.cells.now c.step.new.rows c.requires.size c.step.auto.rows c.in_ok-step.ensures.stepped
