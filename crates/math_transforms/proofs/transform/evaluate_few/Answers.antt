use Rattle.std.proofs.Common.{refl, arith}
use Rattle.math_base.proofs.Members.{ring_members}
use Rattle.math_transforms.proofs.PowersOfTwo.{power_of_two-word}
use Rattle.math_transforms.proofs.TreeEntries.{all-points}
use Rattle.math_transforms.proofs.TreeValues.{few-reversed}
use Rattle.math_transforms.proofs.transform.evaluate_few.Goals as goal

pub evaluate_few_below-requires-clause-points : goal.evaluate_few_below-requires-clause-points
evaluate_few_below-requires-clause-points g c =
    let R = ring_members g.F.Multiplicative.product g.F.Debug.debug_output g.F.Object.same g.F.Object.NEVER_REFUSES g.F.Additive.zero g.F.Additive.sum g.F.Additive.negative g.F.Ring.one in
    let F = g.met.F in
    all-points R F.Object.equality F.Additive.group F.Multiplicative.commutes F.Ring.ring g.F.FieldNTT.root g.F.Ring.one _ _ refl c.requires.domain.0 c.requires.domain.1
    (λ l within. F.FieldNTT.roots.square l (omega (arith, within, c.requires.domain.0))) c.requires.table

pub evaluate_few_below-requires-clause-entries : goal.evaluate_few_below-requires-clause-entries
evaluate_few_below-requires-clause-entries g c = omega (arith, c.requires.table.count, power_of_two-word c.args.lg c.requires.domain.1)

pub returns-clause-values : goal.returns-clause-values
returns-clause-values g c =
    let R = ring_members g.F.Multiplicative.product g.F.Debug.debug_output g.F.Object.same g.F.Object.NEVER_REFUSES g.F.Additive.zero g.F.Additive.sum g.F.Additive.negative g.F.Ring.one in
    let F = g.met.F in
    few-reversed R F.Object.equality F.Additive.group F.Multiplicative.commutes F.Ring.ring F.Field.field g.F.FieldNTT.root c.args.lg c.args.cols
    (F.FieldNTT.roots.order c.args.lg c.requires.domain.0) c.args.part c.args.table.now c.args.cells.now c.evaluate_few_below.new.cells c.requires.part c.requires.table
    c.in_ok-evaluate_few_below.ensures.values
