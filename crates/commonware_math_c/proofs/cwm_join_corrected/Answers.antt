use Rattle.std.proofs.Common.{◌≡◌, ◌∙◌, length, sym, ap, inr, arith}
use Rattle.std.proofs.lemmas.Bool.{false≢true}
use Rattle.c_calls.proofs.AlikeShards.{below_corrected, one_corrected, only_memory_correcting, rows_corrected}
use Rattle.commonware_math_c.proofs.cwm_join_corrected.Goals as goal

pub returns-in_default-clause-found : goal.returns-in_default-clause-found
returns-in_default-clause-found c = λ words positions h l m.
    absurd (c.in_default.ensures.none (rows_corrected words positions c.args.min c.args.total c.args.indices.now c.args.cells.now h))

pub returns-then-not-are_elements-clause-found : goal.returns-then-not-are_elements-clause-found
returns-then-not-are_elements-clause-found c = λ words positions h l m.
    absurd (false≢true
    (sym c.if-not-are_elements.true ∙ c.are_elements.ensures.1 (below_corrected words positions c.args.min c.args.total c.args.indices.now c.args.cells.now h)))

pub returns-in-Ok-None-clause-found : goal.returns-in-Ok-None-clause-found
returns-in-Ok-None-clause-found c = λ words positions h l m.
    let other = rw c.in-Ok-None.field-0-is at c.in-Ok-None.ensures.written.none in
    let long : length words ≡ length other.0 =
    ap length (one_corrected words other.0 positions other.1 c.args.min c.args.total c.args.indices.now c.args.cells.now h other.2) in
    absurd (omega (arith, l, long, other.3))

pub returns-in-Err-clause-found : goal.returns-in-Err-clause-found
returns-in-Err-clause-found c = λ words positions h l m.
    inr (c.code-in-Err.ensures ∙ c.of_shards.ensures
    ∙ only_memory_correcting words positions c.args.min c.args.total c.args.indices.now c.args.cells.now c.in-Err.error h c.in-Err.ensures.due)
