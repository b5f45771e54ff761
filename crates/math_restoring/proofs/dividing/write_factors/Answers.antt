use Rattle.std.proofs.Common.{arith}
use Rattle.math_fields.specs.Elements.{residue}
use Rattle.math_transforms.proofs.PowersOfTwo.{power_of_two-double}
use Rattle.math_restoring.proofs.MadeDivisions.{high-factors, low-factors, whole-factors}
use Rattle.math_restoring.proofs.PointsOfTrees.{forward-tree}
use Rattle.math_restoring.proofs.dividing.write_factors.Goals as goal

pub evaluate-requires-clause-points : goal.evaluate-requires-clause-points
evaluate-requires-clause-points c =
    record { domain = omega (arith, c.requires.domain); small = omega (arith, c.requires.domain); tree = forward-tree (residue 1) c.args.lg c.args.roots.now c.requires.domain c.requires.tree; some = omega arith; within = omega (arith, c.requires.tree.count) }

pub multiply_rows-requires-else-part-lg : goal.multiply_rows-requires-else-part-lg
multiply_rows-requires-else-part-lg c =
    omega (arith, c.evaluate.auto.cells, c.requires.size, c.size_of-else-part-lg.ensures, power_of_two-double c.args.lg c.requires.some)

pub returns-in_ok-multiply_rows : goal.returns-in_ok-multiply_rows
returns-in_ok-multiply_rows c = record {
  whole = λ t e l.
      whole-factors c.args.lg c.args.part c.args.step c.requires.some c.requires.domain c.args.cells.now c.evaluate.new.cells c.args.roots.now c.requires.size c.requires.tree
      c.evaluate.ensures c.in_ok-factor.factor c.multiply_rows.new.cells c.in_ok-factor.ensures.inverse (rw c.size_of.ensures at c.in_ok-multiply_rows.ensures.products) t l;
  low = λ t l b. absurd (omega (arith, l, c.if-part-lg.true));
  high = λ t l b. absurd (omega (arith, l, c.if-part-lg.true));
}

pub returns-in_ok-multiply_rows-2 : goal.returns-in_ok-multiply_rows-2
returns-in_ok-multiply_rows-2 c = record {
  whole = λ t e l. absurd (c.if-part-lg.false e);
  low = λ t e l.
      low-factors c.args.lg c.args.part c.args.step c.requires.some c.requires.domain c.args.cells.now c.evaluate.new.cells c.args.roots.now c.requires.size c.requires.tree
      c.evaluate.ensures c.in_ok-factor.factor c.square_times-power.result c.both_factors-factors.result.0 c.both_factors-factors.result.1
      c.multiply_rows-else-part-lg.new.cells c.in_ok-factor.ensures.inverse c.square_times-power.ensures c.both_factors-factors.ensures.first c.both_factors-factors.ensures.second
      (rw c.size_of-else-part-lg.ensures at c.in_ok-multiply_rows-2.ensures.products) t l;
  high = λ t e l.
      high-factors c.args.lg c.args.part c.args.step c.requires.some c.requires.domain c.args.cells.now c.evaluate.new.cells c.args.roots.now c.requires.size c.requires.tree
      c.evaluate.ensures c.in_ok-factor.factor c.square_times-power.result c.both_factors-factors.result.0 c.both_factors-factors.result.1
      c.multiply_rows-else-part-lg.new.cells c.in_ok-factor.ensures.inverse c.square_times-power.ensures c.both_factors-factors.ensures.first c.both_factors-factors.ensures.second
      (rw c.size_of-else-part-lg.ensures at c.in_ok-multiply_rows-2.ensures.products) t l;
}
