use Rattle.std.proofs.Common.{◌≡◌, ◌∙◌, ◌+◌, ◌*◌, ◌^◌, length, not, eqb, ap, arith}
use Rattle.math_base.proofs.Members.{ring_members}
use Rattle.math_transforms.proofs.StepsBelow.{sixteen-done}
use Rattle.math_transforms.proofs.points_below.transform_sixteen.Goals as goal

pub turn_sixteen_rows-done-requires-clause-order : goal.turn_sixteen_rows-done-requires-clause-order
turn_sixteen_rows-done-requires-clause-order g c = omega (arith, c.if-points-ne4.false, c.requires.points.domain)

pub turn_sixteen_rows-done-requires-clause-odd : goal.turn_sixteen_rows-done-requires-clause-odd
turn_sixteen_rows-done-requires-clause-odd g c = c.requires.points.tree.odd

pub turn_sixteen_rows-done-requires-clause-size : goal.turn_sixteen_rows-done-requires-clause-size
turn_sixteen_rows-done-requires-clause-size g c = c.requires.size ∙ ap (λ i. 2 ^ i * c.args.cols) c.if-points-ne4.false

pub turn_sixteen_rows-done-requires-clause-inside : goal.turn_sixteen_rows-done-requires-clause-inside
turn_sixteen_rows-done-requires-clause-inside g c = grind arith

pub returns-then-done-clause-counted : goal.returns-then-done-clause-counted
returns-then-done-clause-counted g c = grind arith

pub returns-then-done-clause-done : goal.returns-then-done-clause-done
returns-then-done-clause-done g c = λ t.
    let F = g.met.F in
    let R = ring_members g.F.Multiplicative.product g.F.Debug.debug_output g.F.Object.same g.F.Object.NEVER_REFUSES g.F.Additive.zero g.F.Additive.sum g.F.Additive.negative g.F.Ring.one in
    let size : length c.args.cells.now ≡ 16 * c.args.cols = c.requires.size ∙ ap (λ i. 2 ^ i * c.args.cols) c.if-points-ne4.false in
    sixteen-done R F.Object.equality F.Additive.group F.Multiplicative.commutes F.Ring.ring F.Field.field F.FieldNTT.roots (not (eqb g.row.FORWARD 0)) c.args.points.now c.requires.points c.args.cols c.if-points-ne4.false
    c.args.cells.now c.turn_sixteen_rows-done.new.rows size (c.turn_sixteen_rows-done.auto.rows ∙ size) (c.turn_sixteen_rows-done.ensures.turned c.if-done.true)
