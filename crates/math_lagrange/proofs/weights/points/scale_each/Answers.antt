use Rattle.std.proofs.Common.{◌≡◌, ◌∙◌, ◌++◌, length, take, drop, ap}
use Rattle.math_base.proofs.WholeWrites.{take-written}
use Rattle.math_lagrange.proofs.weights.points.scale_each.Goals as goal

pub returns-clause-each : goal.returns-clause-each
returns-clause-each g c =
    let old = c.args.items.items in
    let new = c.multiply_row.new.cells in
    let kept : length new ≡ length old = c.multiply_row.auto.cells ∙ ap length c.deref_mut.ensures.value in
    let written : take c.args.items.len (new ++ drop (length new) old) ≡ new = take-written c.args.items.len old new c.args.items.ok.0 kept in
    rw written (rw c.deref_mut.ensures.value at c.in_ok-multiply_row.ensures.products)
