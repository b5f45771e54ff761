use Rattle.std.proofs.Common.{◌∙◌}
use Rattle.c_calls.specs.SystematicRows.{AreRebuilt, IsDueTo}
use Rattle.c_calls.proofs.SystematicRows.{given-with, refused-with, rows-of}
use Rattle.commonware_math_c.proofs.systematic.cwm_systematic_rebuild.Goals as goal

pub write_rows-requires : goal.write_rows-requires
write_rows-requires c =
    let a = c.args in
    rows-of a.size a.min a.total _ _ c.in-Some.held.code.split c.in-Some.ensures.some.split (c.have_rows.ensures.0 c.if-not-have_rows.false)

pub returns-in-Ok-clause-rebuilt : goal.returns-in-Ok-clause-rebuilt
returns-in-Ok-clause-rebuilt c = λ _.
    let a = c.args in
    let found = c.in-Ok.ensures.ok in
    given-with a.size a.min a.total a.mask a.indices.now a.rows.now c.in-Some.held found.0 (λ code rows. AreRebuilt code rows a.wanted.now c.write_rows.new.out) c.in-Some.ensures.some found.1 found.2

pub returns-in-Err-clause-refused : goal.returns-in-Err-clause-refused
returns-in-Err-clause-refused c = λ tells.
    let a = c.args in
    refused-with a.size a.min a.total a.mask a.indices.now a.rows.now c.in-Some.held (λ code. IsDueTo code a.wanted.now) c.in-Err.error _ c.in-Some.ensures.some (c.code-in-Err.ensures ∙ c.of_rows.ensures) c.in-Err.ensures.due tells
