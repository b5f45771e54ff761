use Rattle.std.proofs.Common.{◌≡◌, ◌∙◌, ◌+◌, ◌-◌, ◌*◌, length, arith}
use Rattle.math_transforms.proofs.ReversedBits.{reversed-row_within}
use Rattle.math_transforms.proofs.transform.order.reversed_row.Goals as goal

pub overflow_mul-at : goal.overflow_mul-at
overflow_mul-at g c = grind (arith, reversed-row_within)

pub overflow_add-result : goal.overflow_add-result
overflow_add-result g c = grind (arith, reversed-row_within)

pub offset_bounds-cells-at : goal.offset_bounds-cells-at
offset_bounds-cells-at g c = grind (arith, reversed-row_within)

pub slice_bounds-result-end : goal.slice_bounds-result-end
slice_bounds-result-end g c = reversed-row_within c.args.lg c.args.i c.args.cols (length c.args.cells.now) c.reverse_bits.result c.requires.size c.reverse_bits.ensures

pub returns-clause-row : goal.returns-clause-row
returns-clause-row g c = grind arith

pub returns-clause-count : goal.returns-clause-count
returns-clause-count g c = grind arith
