use Rattle.std.proofs.Common.{◌≡◌, ◌∙◌, length, sym, arith}
use Rattle.systematic_shards.specs.declared.Error.{Error}
use Rattle.systematic_shards.specs.declared.Error.TheVariants.{Memory, TooFew, Mismatch, Sizes, Index, Word, Conflict, Inconsistent}
use Rattle.c_calls.specs.Statuses.{done, status_of_rows}
use Rattle.c_calls.specs.SystematicRows.{AreDecoded, IsDecodeDueTo}
use Rattle.c_calls.proofs.SystematicRows.{given-with, refused-with}
use Rattle.commonware_math_c.proofs.systematic.cwm_systematic_decode.Goals as goal

refused : (e : Error) → ¬ (status_of_rows e ≡ done)
refused (Memory x) e = omega (arith, e)
refused TooFew e = omega (arith, e)
refused Mismatch e = omega (arith, e)
refused Sizes e = omega (arith, e)
refused Index e = omega (arith, e)
refused Word e = omega (arith, e)
refused Conflict e = omega (arith, e)
refused Inconsistent e = omega (arith, e)

pub returns-in-Ok-clause-decoded : goal.returns-in-Ok-clause-decoded
returns-in-Ok-clause-decoded c = λ _.
    let a = c.args in
    let found = c.in-Ok.ensures.ok in
    given-with (length a.block.now) a.min a.total a.mask a.indices.now a.rows.now c.in-Some.held found.0 (λ code rows. AreDecoded code rows c.write_block.new.block) c.in-Some.ensures.some found.1 found.2

pub returns-in-Err-clause-decoded : goal.returns-in-Err-clause-decoded
returns-in-Err-clause-decoded c = λ e. absurd (refused c.in-Err.error (sym (c.code-in-Err.ensures ∙ c.of_rows.ensures) ∙ e))

pub returns-in-Err-clause-refused : goal.returns-in-Err-clause-refused
returns-in-Err-clause-refused c = λ tells.
    let a = c.args in
    refused-with (length a.block.now) a.min a.total a.mask a.indices.now a.rows.now c.in-Some.held (λ code. IsDecodeDueTo code) c.in-Err.error c.code-in-Err.result c.in-Some.ensures.some (c.code-in-Err.ensures ∙ c.of_rows.ensures) c.in-Err.ensures.due tells
