use Rattle.std.proofs.Common.{◌≡◌, ◌∙◌, ℕ, ◌+◌, ◌≤◌, ◌^◌, ◌++◌, length, drop, ap, arith}
use Rattle.std.proofs.lemmas.List.{length-take}
use Rattle.math_theory.specs.Recovery.{count_true}
use Rattle.math_fields.specs.declared.goldilocks.F.{F}
use Rattle.math_fields.specs.Elements.{root_of}
use Rattle.math_ntt.specs.CorrectedRows.{IsCorrected}
use Rattle.math_ntt.specs.Evaluations.{EvaluationsOf}
use Rattle.c_calls.specs.WordElements.{numbers, goldilocks}
use Rattle.c_calls.specs.WordRows.{HasRowsFor, truth, word_evaluations}
use Rattle.c_calls.proofs.FilledRows.{AgreeWhereFilled, agree_back, corrected_there, near_there, read_where_filled}
use Rattle.c_calls.proofs.WordCorrections.{corrected_words, room_for_rows}
use Rattle.c_calls.proofs.WordMatrices.{has_domain}
use Rattle.c_calls.proofs.corrections.correct_words.Goals as goal

pub correct-requires-clause-domain : goal.correct-requires-clause-domain
correct-requires-clause-domain c =
    has_domain c.args.filled.now.lg c.from_parts-values.result.matrix.rows c.args.filled.now.small (ap (λ m. m.rows) (c.from_parts-values.ensures.matrix ∙ c.matrix_of-matrix.ensures) ∙ c.args.filled.now.rows)

pub returns-in_default-clause-none : goal.returns-in_default-clause-none
returns-in_default-clause-none c same h =
    let cells = c.args.cells.now in
    let bytes = c.args.filled.now.bytes.now in
    let e : EvaluationsOf F = c.from_parts-values.result in
    let agree : AgreeWhereFilled e (word_evaluations c.args.filled.now.cols cells bytes) =
    read_where_filled c.args.filled.now.cols cells bytes c.in_ok-items.items.items e (c.from_parts-values.ensures.matrix ∙ c.matrix_of-matrix.ensures)
    (c.from_parts-values.ensures.filled ∙ c.in_ok-points.ensures) c.requires.whole c.in_ok-items.ensures.count c.in_ok-items.ensures.filled in
    let rows : e.matrix.rows ≡ 2 ^ h.0 = agree.rows ∙ h.1 in
    let none = rw c.in_default.is at c.in_ok-corrected.ensures.none in
    none h.0 rows h.2 (near_there (word_evaluations c.args.filled.now.cols cells bytes) e (agree_back e (word_evaluations c.args.filled.now.cols cells bytes) agree) (root_of h.0) c.args.count h.2 h.3)

pub slice_bounds-copy_from_slice-end-2 : goal.slice_bounds-copy_from_slice-end-2
slice_bounds-copy_from_slice-end-2 c =
    let bytes = c.args.filled.now.bytes.now in
    let e : EvaluationsOf F = c.from_parts-values.result in
    let rows : e.matrix.rows ≡ 2 ^ c.args.filled.now.lg = ap (λ m. m.rows) (c.from_parts-values.ensures.matrix ∙ c.matrix_of-matrix.ensures) ∙ c.args.filled.now.rows in
    let found = c.in-Some.corrected in
    let corrected = rw c.in-Some.is at c.in_ok-corrected.ensures.found in
    let few : length found.wrong.items + length found.wrong.items + c.args.count ≤ count_true (truth bytes) =
    rw (c.from_parts-values.ensures.filled, c.in_ok-points.ensures) at ((corrected c.args.filled.now.lg rows).few) in
    let room : length found.wrong.items ≤ length c.args.wrong.now = room_for_rows bytes found.wrong.items c.args.wrong.now c.args.count c.requires.room few in
    let is : c.len-places.result ≡ length found.wrong.items = omega (arith, c.len-places.ensures) in
    omega (arith, length-take c.len-places.result c.args.wrong.now, is, room)

pub copy_from_slice-requires : goal.copy_from_slice-requires
copy_from_slice-requires c =
    let bytes = c.args.filled.now.bytes.now in
    let e : EvaluationsOf F = c.from_parts-values.result in
    let rows : e.matrix.rows ≡ 2 ^ c.args.filled.now.lg = ap (λ m. m.rows) (c.from_parts-values.ensures.matrix ∙ c.matrix_of-matrix.ensures) ∙ c.args.filled.now.rows in
    let found = c.in-Some.corrected in
    let corrected = rw c.in-Some.is at c.in_ok-corrected.ensures.found in
    let few : length found.wrong.items + length found.wrong.items + c.args.count ≤ count_true (truth bytes) =
    rw (c.from_parts-values.ensures.filled, c.in_ok-points.ensures) at ((corrected c.args.filled.now.lg rows).few) in
    let room : length found.wrong.items ≤ length c.args.wrong.now = room_for_rows bytes found.wrong.items c.args.wrong.now c.args.count c.requires.room few in
    let is : c.len-places.result ≡ length found.wrong.items = omega (arith, c.len-places.ensures) in
    rw c.deref-2.ensures.value (omega (arith, length-take c.len-places.result c.args.wrong.now, is, room))

pub returns-clause-done : goal.returns-clause-done
returns-clause-done c same =
    let filled = c.args.filled.now in
    let cells = c.args.cells.now in
    let bytes = filled.bytes.now in
    let shape : HasRowsFor (length cells) filled.cols (length bytes) = record { domain = (filled.lg, filled.small, filled.rows); some = filled.some; count = c.requires.whole } in
    let e : EvaluationsOf F = c.from_parts-values.result in
    let agree : AgreeWhereFilled e (word_evaluations c.args.filled.now.cols cells bytes) =
    read_where_filled c.args.filled.now.cols cells bytes c.in_ok-items.items.items e (c.from_parts-values.ensures.matrix ∙ c.matrix_of-matrix.ensures)
    (c.from_parts-values.ensures.filled ∙ c.in_ok-points.ensures) c.requires.whole c.in_ok-items.ensures.count c.in_ok-items.ensures.filled in
    let found = c.in-Some.corrected in
    let corrected = rw c.in-Some.is at c.in_ok-corrected.ensures.found in
    let there : (l : ℕ) → length bytes ≡ 2 ^ l → IsCorrected goldilocks (root_of l) (word_evaluations c.args.filled.now.cols cells bytes) c.args.count found.polynomials found.wrong.items =
    λ l power.
    corrected_there e (word_evaluations c.args.filled.now.cols cells bytes) agree (root_of l) c.args.count found.polynomials found.wrong.items (corrected l (agree.rows ∙ power)) in
    let is : c.len-places.result ≡ length found.wrong.items = omega (arith, c.len-places.ensures) in
    let written : c.write_numbers.new.words ≡ numbers found.polynomials.cells =
    c.write_numbers.ensures ∙ ap numbers (c.deref.ensures.value ∙ c.into_cells-coefficients.ensures ∙ ap (λ m. m.cells) c.data.ensures) in
    corrected_words c.args.filled.now.cols c.args.count c.args.filled.now.lg cells bytes c.write_numbers.new.words c.args.wrong.now (c.copy_from_slice.new.self ++ drop c.len-places.result c.args.wrong.now)
    found.polynomials found.wrong.items c.len-places.result shape c.args.filled.now.marks c.requires.below c.args.filled.now.rows c.requires.room written is
    (ap (λ xs. xs ++ drop c.len-places.result c.args.wrong.now) (c.copy_from_slice.ensures.after ∙ c.deref-2.ensures.value)) there
