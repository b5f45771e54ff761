use Rattle.std.proofs.Common.{◌≡◌, ◌∙◌, ◌+◌, ◌-◌, ◌*◌, ◌^◌, ap, arith}
use Rattle.math_fields.specs.Elements.{residue}
use Rattle.math_transforms.proofs.PowersOfTwo.{power_of_two-double}
use Rattle.math_restoring.proofs.PointsOfTrees.{backward-tree}
use Rattle.math_restoring.proofs.SummedHalves.{sums-of_halves}
use Rattle.math_restoring.proofs.dividing.write_sums.Goals as goal

pub interpolate-requires-clause-points : goal.interpolate-requires-clause-points
interpolate-requires-clause-points c =
    record { domain = omega (arith, c.requires.domain); small = omega (arith, c.requires.domain); tree = backward-tree (residue 1) c.args.lg c.args.inverses.now c.requires.domain c.requires.tree; some = omega arith; within = omega (arith, c.requires.tree.count, power_of_two-double c.args.lg c.requires.some) }

pub interpolate-requires-2-clause-points : goal.interpolate-requires-2-clause-points
interpolate-requires-2-clause-points c =
    record { domain = omega (arith, c.requires.domain); small = omega (arith, c.requires.domain); tree = backward-tree (residue 1) c.args.lg c.args.inverses.now c.requires.domain c.requires.tree; some = omega arith; within = omega (arith, c.requires.tree.count, power_of_two-double c.args.lg c.requires.some) }

pub add_cells-requires : goal.add_cells-requires
add_cells-requires c =
    let n = 2 ^ (c.args.lg - 1) in
    let cols = c.args.cols in
    let all : 2 ^ c.args.lg * cols ≡ n * cols + n * cols = ap (λ m. m * cols) (power_of_two-double c.args.lg c.requires.some) ∙ omega arith in
    let half : c.size_of.result * cols ≡ n * cols = ap (λ m. m * cols) c.size_of.ensures in
    omega (arith, c.interpolate.auto.cells, c.interpolate-2.auto.cells, c.split_at_mut-low.ensures.front_len, c.split_at_mut-low.ensures.back_len, c.requires.size, all, half)

pub returns : goal.returns
returns c =
    let split = c.split_at_mut-low.ensures in
    let e = c.size_of.ensures in
    let long = c.interpolate.auto.cells ∙ split.front_len ∙ ap (λ n. n * c.args.cols) e in
    sums-of_halves c.args.inverses.now c.args.lg c.args.cols c.args.cells.now c.split_at_mut-low.result.0.now c.split_at_mut-low.result.1.now c.interpolate.new.cells
    c.interpolate-2.new.cells c.add_cells.new.cells c.requires.some c.requires.domain c.requires.tree (rw e at split.front) (rw e at split.back) (c.add_cells.auto.cells ∙ long)
    c.interpolate.ensures c.interpolate-2.ensures (λ j b. c.add_cells.ensures j (omega (arith, b, long)))
