use Rattle.std.proofs.Common.{◌≡◌, ◌∙◌, length, sym, ap, inr, arith}
use Rattle.std.proofs.lemmas.Bool.{false≢true}
use Rattle.c_calls.proofs.ShardBytes.{byte_rows_corrected, cells_of_spelled, one_corrected_block, only_memory_correcting_block, spell_corrected}
use Rattle.commonware_math_c.proofs.cwm_join_bytes_corrected.Goals as goal

pub invariant_of-held : goal.invariant_of-held
invariant_of-held c =
    let both = cells_of_spelled c.args.shards.now (c.are_elements.ensures.0 c.if-not-are_elements.false) in
    record { whole = c.in-Some.ensures.some; spelled = both.1; below = both.0 }

pub returns-in_default-clause-found : goal.returns-in_default-clause-found
returns-in_default-clause-found c = λ block positions h l m.
    absurd (c.in_default.ensures.none (byte_rows_corrected block positions c.args.min c.args.total c.args.indices.now c.args.shards.now h))

pub returns-then-not-are_elements-clause-found : goal.returns-then-not-are_elements-clause-found
returns-then-not-are_elements-clause-found c = λ block positions h l m.
    absurd (false≢true (sym c.if-not-are_elements.true ∙ c.are_elements.ensures.1 (spell_corrected block positions c.args.min c.args.total c.args.indices.now c.args.shards.now h)))

pub returns-in-Ok-None-clause-found : goal.returns-in-Ok-None-clause-found
returns-in-Ok-None-clause-found c = λ block positions h l m.
    let other = rw c.in-Ok-None.field-0-is at c.in-Ok-None.ensures.written.none in
    let long : length block ≡ length other.0 =
    ap length (one_corrected_block block other.0 positions other.1 c.args.min c.args.total c.args.indices.now c.args.shards.now h other.2) in
    absurd (omega (arith, l, long, other.3))

pub returns-in-Err-clause-found : goal.returns-in-Err-clause-found
returns-in-Err-clause-found c = λ block positions h l m.
    inr (c.code-in-Err.ensures ∙ c.of_shards.ensures
    ∙ only_memory_correcting_block block positions c.args.min c.args.total c.args.indices.now c.args.shards.now c.in-Err.error h c.in-Err.ensures.due)
