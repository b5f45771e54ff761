use Rattle.math_shards.specs.declared.shards.Error.{Error}
use Rattle.math_shards.specs.declared.shards.Error.TheVariants.{TooFew, Mismatch, Index, Conflict, Inconsistent}
use Rattle.math_shards.specs.Joining.{HaveConflict, IsMemory}
use Rattle.math_splitting.specs.Shards.{JoinTo, distinct_indices}
use Rattle.math_shards.proofs.DueErrors.{answers, joined_beside, joined_of_some, refuses}
use Rattle.math_shards.proofs.OnlyData.{only_data}
use Rattle.math_shards.proofs.shards.joining.join.Goals as goal

pub returns : goal.returns
returns c =
    let shards = c.args.shards.now in
    let ok = c.joined_words.ensures.ok in
    let err = c.joined_words.ensures.err in
    let refused = λ (e : Error) (other : ¬ (IsMemory e)).
    refuses HaveConflict distinct_indices JoinTo joined_of_some joined_beside (λ v. v.items) (λ v. JoinTo v.items shards) shards (λ v h. h) e other c.joined_words.result ok err in
    record {
      ok = ok;
      found = answers HaveConflict distinct_indices JoinTo joined_of_some joined_beside (λ v. v.items) (λ v. JoinTo v.items shards) shards (λ v h. h)
          (λ words others. only_data words others shards) c.joined_words.result ok err;
      too_few = refused TooFew (λ h. h);
      mismatch = refused Mismatch (λ h. h);
      index = refused Index (λ h. h);
      conflict = refused Conflict (λ h. h);
      inconsistent = refused Inconsistent (λ h. h);
    }
