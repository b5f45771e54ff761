use Rattle.std.proofs.Common.{◌≡◌, ◌∙◌, length, sym, ap, inr, arith}
use Rattle.std.proofs.lemmas.Bool.{false≢true}
use Rattle.c_calls.proofs.AlikeShards.{rows_there, below_there, one_data, only_memory}
use Rattle.commonware_math_c.proofs.cwm_join.Goals as goal

pub returns-in_default-clause-found : goal.returns-in_default-clause-found
returns-in_default-clause-found c = λ words h l. absurd (c.in_default.ensures.none (rows_there words c.args.min c.args.total c.args.indices.now c.args.cells.now h))

pub returns-then-not-are_elements-clause-found : goal.returns-then-not-are_elements-clause-found
returns-then-not-are_elements-clause-found c = λ words h l.
    absurd (false≢true (sym c.if-not-are_elements.true ∙ c.are_elements.ensures.1 (below_there words c.args.min c.args.total c.args.indices.now c.args.cells.now h)))

pub returns-in-Ok-None-clause-found : goal.returns-in-Ok-None-clause-found
returns-in-Ok-None-clause-found c = λ words h l.
    let other = rw c.in-Ok-None.field-0-is at c.in-Ok-None.ensures.written.none in
    let long : length words ≡ length other.0 = ap length (one_data words other.0 c.args.min c.args.total c.args.indices.now c.args.cells.now h other.1) in
    absurd (omega (arith, l, long, other.2))

pub returns-in-Err-clause-found : goal.returns-in-Err-clause-found
returns-in-Err-clause-found c = λ words h l.
    inr (c.code-in-Err.ensures ∙ c.of_shards.ensures ∙ only_memory words c.args.min c.args.total c.args.indices.now c.args.cells.now c.in-Err.error h c.in-Err.ensures.due)
