use Rattle.math_shards.specs.declared.shards.Error.{Error}
use Rattle.math_shards.specs.declared.shards.Error.TheVariants.{TooFew, Mismatch, Index, Conflict, Inconsistent}
use Rattle.math_shards.specs.Correcting.{AreCorrected, CorrectTo, settled_indices}
use Rattle.math_shards.specs.Joining.{IsMemory}
use Rattle.math_shards.proofs.CorrectedShards.{corrected_beside, corrected_of_some, one_correction}
use Rattle.math_shards.proofs.DueErrors.{answers, refuses}
use Rattle.math_shards.proofs.shards.correcting.join_corrected.Goals as goal

pub returns : goal.returns
returns c =
    let shards = c.args.shards.now in
    let ok = c.corrected_words.ensures.ok in
    let err = c.corrected_words.ensures.err in
    let refused = λ (e : Error) (other : ¬ (IsMemory e)).
    refuses (λ _. ⊥) settled_indices CorrectTo corrected_of_some corrected_beside (λ j. j.words.items) (λ j. AreCorrected j.words.items j.left_out.items shards) shards (λ j h. h.0) e other c.corrected_words.result ok err in
    record {
      ok = ok;
      found = answers (λ _. ⊥) settled_indices CorrectTo corrected_of_some corrected_beside (λ j. j.words.items) (λ j. AreCorrected j.words.items j.left_out.items shards) shards (λ j h. h.0)
          (λ words others. one_correction words others shards) c.corrected_words.result ok err;
      too_few = refused TooFew (λ h. h);
      mismatch = refused Mismatch (λ h. h);
      index = refused Index (λ h. h);
      conflict = refused Conflict (λ h. h);
      inconsistent = refused Inconsistent (λ h. h);
    }
