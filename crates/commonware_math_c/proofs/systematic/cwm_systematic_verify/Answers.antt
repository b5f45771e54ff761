use Rattle.std.proofs.Common.{◌∙◌, []}
use Rattle.c_calls.specs.SystematicRows.{IsDueTo, IsVerified}
use Rattle.c_calls.proofs.SystematicRows.{given-with, refused-with}
use Rattle.commonware_math_c.proofs.systematic.cwm_systematic_verify.Goals as goal

pub returns-in-Ok-clause-verified : goal.returns-in-Ok-clause-verified
returns-in-Ok-clause-verified c = λ _.
    let a = c.args in
    let found = c.in-Ok.ensures.ok in
    given-with a.size a.min a.total a.mask a.indices.now a.rows.now c.in-Some.held found.0 (λ code rows. IsVerified code rows c.in-Ok.answer) c.in-Some.ensures.some found.1 found.2

pub returns-in-Err-clause-refused : goal.returns-in-Err-clause-refused
returns-in-Err-clause-refused c = λ tells.
    let a = c.args in
    refused-with a.size a.min a.total a.mask a.indices.now a.rows.now c.in-Some.held (λ code. IsDueTo code []) c.in-Err.error _ c.in-Some.ensures.some (c.code-in-Err.ensures ∙ c.of_rows.ensures) c.in-Err.ensures.due tells
