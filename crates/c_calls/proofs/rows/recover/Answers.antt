use Rattle.std.proofs.Common.{arith, ◌≡◌, ◌∙◌, length, ap}
use Rattle.math_ntt.specs.Evaluations.{EvaluationsOf}
use Rattle.math_fields.specs.declared.goldilocks.F.{F}
use Rattle.c_calls.specs.WordElements.{numbers}
use Rattle.c_calls.proofs.FilledRows.{AgreeWhereFilled, read_where_filled, recovered_filled}
use Rattle.c_calls.specs.WordRows.{HasRowsFor, word_evaluations}
use Rattle.c_calls.proofs.WordMatrices.{has_domain}
use Rattle.c_calls.proofs.rows.recover.Goals as goal

pub recover-requires : goal.recover-requires
recover-requires c = grind (arith, has_domain)

pub returns-clause-ok : goal.returns-clause-ok
returns-clause-ok c =
    let filled = c.args.filled.now in
    let cols = filled.cols in
    let cells = c.args.cells.now in
    let bytes = filled.bytes.now in
    let shape : HasRowsFor (length cells) cols (length bytes) = record { domain = (filled.lg, filled.small, filled.rows); some = filled.some; count = c.requires.whole } in
    let e : EvaluationsOf F = c.from_parts-values.result in
    let written : c.write_numbers.new.words ≡ numbers c.in_ok-recover.field-0.cells =
    c.write_numbers.ensures ∙ ap numbers (c.deref.ensures.value ∙ c.into_cells-coefficients.ensures ∙ ap (λ m. m.cells) c.data.ensures) in
    let agree : AgreeWhereFilled e (word_evaluations cols cells bytes) =
    read_where_filled cols cells bytes c.in_ok-items.items.items e (c.from_parts-values.ensures.matrix ∙ c.matrix_of-matrix.ensures)
    (c.from_parts-values.ensures.filled ∙ c.in_ok-points.ensures) c.requires.whole c.in_ok-items.ensures.count c.in_ok-items.ensures.filled in
    recovered_filled cols cells bytes c.write_numbers.new.words e c.in_ok-recover.field-0 shape filled.marks c.requires.below
    agree c.in_ok-recover.ensures.size c.in_ok-recover.ensures.fits c.in_ok-recover.ensures.only written
