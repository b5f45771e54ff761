use Rattle.std.proofs.Common.{List, ℕ, subst}
use Rattle.std.proofs.lemmas.Result.{err_from_is_err_and}
use Rattle.math_shards.specs.Correcting.{AreCorrected, CorrectTo, settled_indices}
use Rattle.math_shards.proofs.CorrectedShards.{corrected_beside, corrected_of_some, one_correction}
use Rattle.shard_blocks.proofs.BlockErrors.{due_for_block, inconsistent_of_words}
use Rattle.shard_blocks.proofs.correcting.correct_to_block.Goals as goal

pub returns-in_err-packed-clause-err : goal.returns-in_err-packed-clause-err
returns-in_err-packed-clause-err c =
    let q = err_from_is_err_and c.from_residual.result c.from_residual.ensures.1 in
    rw (q.1, q.2) (due_for_block (λ _. ⊥) settled_indices CorrectTo c.args.shards.now c.in_err-packed.field-0.0 c.in_err-packed.ensures.err)

pub returns-clause-err : goal.returns-clause-err
returns-clause-err c =
    let found = c.in_ok-packed.ensures.ok in
    inconsistent_of_words (λ _. ⊥) settled_indices CorrectTo corrected_of_some corrected_beside one_correction found.0 c.args.shards.now found.2.0
    (λ block of. rw c.in-None.is at (c.in_ok-bytes.ensures.found found.0 block found.1 of))

pub returns-in-Some-clause-ok : goal.returns-in-Some-clause-ok
returns-in-Some-clause-ok c =
    let found = c.in_ok-packed.ensures.ok in
    let of = rw c.in-Some.is at c.in_ok-bytes.ensures.some found.0 found.1 in
    (of.0, subst (λ (w : List ℕ). AreCorrected w c.in_ok-packed.left_out.items c.args.shards.now) of.1 found.2)
