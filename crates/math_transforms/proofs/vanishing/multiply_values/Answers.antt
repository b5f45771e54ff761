use Rattle.std.proofs.Common.{◌≡◌, ◌^◌, length, arith}
use Rattle.math_base.proofs.Members.{ring_members}
use Rattle.math_transforms.proofs.DomainSteps.{values-multiplied}
use Rattle.math_transforms.proofs.vanishing.multiply_values.Goals as goal

pub returns-clause-values : goal.returns-clause-values
returns-clause-values g c =
    let F = g.met.F in
    let R = ring_members g.F.Multiplicative.product g.F.Debug.debug_output g.F.Object.same g.F.Object.NEVER_REFUSES g.F.Additive.zero g.F.Additive.sum g.F.Additive.negative g.F.Ring.one in
    let long : length c.evaluate_rows-2.new.cells ≡ 2 ^ c.args.trees.now.lg = omega arith in
    values-multiplied R F.Object.equality F.Additive.group F.Multiplicative.commutes F.Ring.ring (g.F.FieldNTT.root c.args.trees.now.lg)
    (2 ^ c.args.trees.now.lg) c.args.left.now c.evaluate_rows.new.cells c.args.right.now c.evaluate_rows-2.new.cells
    c.multiply_rows.new.cells c.interpolate_rows.new.cells c.requires.left c.requires.right (omega arith) c.in_ok-evaluate_rows.ensures.values c.in_ok-evaluate_rows-2.ensures.values
    (rw long at c.in_ok-multiply_rows.ensures.products)
    c.in_ok-interpolate_rows.ensures.values
