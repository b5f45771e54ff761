use Rattle.std.proofs.Common.{◌≡◌, ◌∙◌, ℕ, List, length}
use Rattle.c_calls.specs.SystematicRows.{AreCorrected, IsCorrectingDueTo}
use Rattle.c_calls.specs.WordEncodings.{StandInFront}
use Rattle.c_calls.proofs.SystematicRows.{given-with, refused-with, rows-of}
use Rattle.commonware_math_c.proofs.systematic.cwm_systematic_rebuild_corrected.Goals as goal

pub write_corrected_rows-requires-clause-rows : goal.write_corrected_rows-requires-clause-rows
write_corrected_rows-requires-clause-rows c =
    let a = c.args in
    rows-of a.size a.min a.total _ _ c.in-Some.held.code.split c.in-Some.ensures.some.split (c.have_rows.ensures.0 c.if-not-have_rows.false)

pub returns-in-Ok-clause-corrected : goal.returns-in-Ok-clause-corrected
returns-in-Ok-clause-corrected c = λ _.
    let a = c.args in
    let found = c.in-Ok.ensures.ok in
    given-with a.size a.min a.total a.mask a.indices.now a.rows.now c.in-Some.held found.0
    (λ code rows. (positions : List ℕ) × AreCorrected code rows a.wanted.now positions c.write_corrected_rows.new.out
    × (c.in-Ok.positions ≡ length positions) × StandInFront positions a.left_out.now c.write_corrected_rows.new.left_out) c.in-Some.ensures.some found.1 found.2

pub returns-in-Err-clause-refused : goal.returns-in-Err-clause-refused
returns-in-Err-clause-refused c = λ tells.
    let a = c.args in
    refused-with a.size a.min a.total a.mask a.indices.now a.rows.now c.in-Some.held (λ code. IsCorrectingDueTo code a.wanted.now) c.in-Err.error _ c.in-Some.ensures.some (c.code-in-Err.ensures ∙ c.of_rows.ensures) c.in-Err.ensures.due tells
