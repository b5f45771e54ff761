use Rattle.std.proofs.Common.{◌≡◌, ◌∙◌, ◌*◌, ◌<◌, ◌^◌, length, rules, arith}
use Rattle.math_base.proofs.Members.{ring_members}
use Rattle.math_transforms.proofs.BelowSteps.{one_level, some-columns, some-level}
use Rattle.math_transforms.proofs.SomeCells.{some-cells}
use Rattle.math_transforms.proofs.ScaledColumns.{values-scaled}
use Rattle.math_transforms.proofs.ScaledCells.{halved-no_times, scaled-by_one}
use Rattle.math_transforms.proofs.transform.interpolate_rows.Goals as goal

pub returns-clause-values : goal.returns-clause-values
returns-clause-values g c =
    let R = ring_members g.F.Multiplicative.product g.F.Debug.debug_output g.F.Object.same g.F.Object.NEVER_REFUSES g.F.Additive.zero g.F.Additive.sum g.F.Additive.negative g.F.Ring.one in
    let F = g.met.F in
    let many : length c.interpolate_multiples.new.cells ≡ 2 ^ c.args.lg * c.args.cols = c.interpolate_multiples.auto.cells ∙ c.requires.size in
    values-scaled R F.Object.equality F.Additive.group F.Multiplicative.commutes F.Ring.ring (2 ^ c.args.lg) c.args.cols (g.F.FieldNTT.root c.args.lg) c.args.lg c.in_ok-factor.factor c.args.cells.now c.interpolate_multiples.new.cells c.multiply_row.new.cells c.in_ok-factor.ensures.inverse
    many (c.multiply_row.auto.cells ∙ many) c.in_ok-interpolate_multiples.ensures.values c.in_ok-multiply_row.ensures.products

pub returns-then-count-cols-clause-values : goal.returns-then-count-cols-clause-values
returns-then-count-cols-clause-values g c = λ j k l b.
    let R = ring_members g.F.Multiplicative.product g.F.Debug.debug_output g.F.Object.same g.F.Object.NEVER_REFUSES g.F.Additive.zero g.F.Additive.sum g.F.Additive.negative g.F.Ring.one in
    let F = g.met.F in
    let many : length c.interpolate_multiples.new.cells ≡ 2 ^ c.args.lg * c.args.cols = c.interpolate_multiples.auto.cells ∙ c.requires.size in
    let none : c.args.lg ≡ 0 = one_level c.args.lg c.args.cols (length c.interpolate_multiples.new.cells) many c.if-count-cols.true (omega (arith, b)) in
    values-scaled R F.Object.equality F.Additive.group F.Multiplicative.commutes F.Ring.ring (2 ^ c.args.lg) c.args.cols (g.F.FieldNTT.root c.args.lg) c.args.lg g.F.Ring.one c.args.cells.now c.interpolate_multiples.new.cells c.interpolate_multiples.new.cells
    (halved-no_times F.Object.equality F.Additive.group F.Multiplicative.commutes F.Ring.ring c.args.lg (omega (arith, none)))
    many many c.in_ok-interpolate_multiples.ensures.values (λ p l. scaled-by_one F.Object.equality F.Additive.group F.Multiplicative.commutes F.Ring.ring _) j k l b

pub returns-in_err-factor-clause-counted : goal.returns-in_err-factor-clause-counted
returns-in_err-factor-clause-counted g c = record { all = search rules; bounded = search rules; some = grind (arith, some-columns, some-level, some-cells) }

pub returns-in_err-multiply_row-clause-counted : goal.returns-in_err-multiply_row-clause-counted
returns-in_err-multiply_row-clause-counted g c = record { all = search rules; bounded = search rules; some = grind (arith, some-columns, some-level, some-cells) }
