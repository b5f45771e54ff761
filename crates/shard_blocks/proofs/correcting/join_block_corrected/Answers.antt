use Rattle.math_shards.specs.declared.shards.Error.{Error}
use Rattle.math_shards.specs.declared.shards.Error.TheVariants.{TooFew, Mismatch, Index, Conflict, Inconsistent}
use Rattle.math_shards.specs.Correcting.{CorrectTo, settled_indices}
use Rattle.math_shards.specs.Joining.{IsMemory}
use Rattle.math_shards.proofs.CorrectedShards.{corrected_beside, corrected_of_some, one_correction}
use Rattle.math_shards.proofs.DueErrors.{answers, refuses}
use Rattle.shard_blocks.specs.Correcting.{AreCorrectedBlock, CorrectToBlock}
use Rattle.shard_blocks.proofs.BlockErrors.{block_beside, block_of_some, block_once}
use Rattle.shard_blocks.proofs.correcting.join_block_corrected.Goals as goal

pub returns : goal.returns
returns c =
    let shards = c.args.shards.now in
    let ok = c.correct_to_block.ensures.ok in
    let err = c.correct_to_block.ensures.err in
    let none = block_of_some (λ _. ⊥) settled_indices CorrectTo corrected_of_some corrected_beside one_correction in
    let beside = block_beside (λ _. ⊥) settled_indices CorrectTo corrected_of_some corrected_beside one_correction in
    let once = block_once (λ _. ⊥) settled_indices CorrectTo corrected_of_some corrected_beside one_correction in
    let refused = λ (e : Error) (other : ¬ (IsMemory e)).
    refuses (λ _. ⊥) settled_indices CorrectToBlock none beside (λ v. v.bytes.items) (λ v. AreCorrectedBlock v.bytes.items v.left_out.items shards) shards (λ v h. (h.0, h.1.0)) e other c.correct_to_block.result ok err in
    record {
      ok = ok;
      found = answers (λ _. ⊥) settled_indices CorrectToBlock none beside (λ v. v.bytes.items) (λ v. AreCorrectedBlock v.bytes.items v.left_out.items shards) shards (λ v h. (h.0, h.1.0))
          (λ bytes others. once bytes others shards) c.correct_to_block.result ok err;
      too_few = refused TooFew (λ h. h);
      mismatch = refused Mismatch (λ h. h);
      index = refused Index (λ h. h);
      conflict = refused Conflict (λ h. h);
      inconsistent = refused Inconsistent (λ h. h);
    }
