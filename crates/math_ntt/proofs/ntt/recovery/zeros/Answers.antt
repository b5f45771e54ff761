use Rattle.std.proofs.Common.{◌<◌, length, arith}
use Rattle.std.proofs.lemmas.List.{get_or_default}
use Rattle.math_transforms.proofs.WrittenRows.{written-done}
use Rattle.math_ntt.proofs.ntt.recovery.zeros.Goals as goal

pub loop-cell-init : goal.loop-cell-init
loop-cell-init g c = record { done = λ k l. absurd (omega arith) }

pub loop-cell-preserved : goal.loop-cell-preserved
loop-cell-preserved g c =
    let zero = g.F.Additive.zero in
    let cells = c.loop-cell.cells in
    let within : c.loop-cell.cell-index < length cells = omega arith in
    record { done = written-done zero (λ k x. g.F.Object.same x zero) cells cells c.loop-cell.cell-index c.in_ok-zero.zero within c.loop-cell.invariant.done c.in_ok-zero.ensures.ok }

pub returns : goal.returns
returns g c = grind (arith, get_or_default)
