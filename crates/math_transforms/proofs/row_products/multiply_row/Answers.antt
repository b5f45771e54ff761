use Rattle.std.proofs.Common.{◌≡◌, ◌∙◌, ◌<◌, length, get_or, refl, arith}
use Rattle.std.proofs.lemmas.List.{get_or_default}
use Rattle.math_transforms.proofs.WrittenRows.{written-done, written-rest}
use Rattle.math_transforms.proofs.row_products.multiply_row.Goals as goal

pub loop-cell-init : goal.loop-cell-init
loop-cell-init g c = record { done = λ k l. absurd (omega arith); rest = λ k l. refl }

pub loop-cell-preserved : goal.loop-cell-preserved
loop-cell-preserved g c =
    let zero = g.F.Additive.zero in
    let cells = c.loop-cell.cells in
    let i = c.loop-cell.cell-index in
    let within : i < length cells = omega arith in
    let read : get_or cells i c.cell-item.result ≡ get_or c.args.cells.now i zero = get_or_default cells i c.cell-item.result zero within ∙ c.loop-cell.invariant.rest i (omega arith) in
    record {
      done = written-done zero (λ k x. g.F.Object.same x (g.F.Multiplicative.product (get_or c.args.cells.now k zero) c.args.factor.now)) c.args.cells.now cells i c.mul_assign.new.self
          within c.loop-cell.invariant.done (rw (← read) c.in_ok-mul_assign.ensures.ok);
      rest = written-rest zero (λ k x. Unit {0}) c.args.cells.now cells i c.mul_assign.new.self c.loop-cell.invariant.rest;
    }
