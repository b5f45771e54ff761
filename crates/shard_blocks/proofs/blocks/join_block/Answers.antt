use Rattle.math_shards.specs.declared.shards.Error.{Error}
use Rattle.math_shards.specs.declared.shards.Error.TheVariants.{TooFew, Mismatch, Index, Conflict, Inconsistent}
use Rattle.math_shards.specs.Joining.{HaveConflict, IsMemory}
use Rattle.math_splitting.specs.Shards.{JoinTo, distinct_indices}
use Rattle.math_shards.proofs.DueErrors.{answers, joined_beside, joined_of_some, refuses}
use Rattle.math_shards.proofs.OnlyData.{only_data}
use Rattle.shard_blocks.specs.Blocks.{JoinToBlock}
use Rattle.shard_blocks.proofs.BlockErrors.{block_beside, block_of_some, block_once}
use Rattle.shard_blocks.proofs.blocks.join_block.Goals as goal

pub returns : goal.returns
returns c =
    let shards = c.args.shards.now in
    let ok = c.recovered_block.ensures.ok in
    let err = c.recovered_block.ensures.err in
    let none = block_of_some HaveConflict distinct_indices JoinTo joined_of_some joined_beside only_data in
    let beside = block_beside HaveConflict distinct_indices JoinTo joined_of_some joined_beside only_data in
    let once = block_once HaveConflict distinct_indices JoinTo joined_of_some joined_beside only_data in
    let refused = λ (e : Error) (other : ¬ (IsMemory e)).
    refuses HaveConflict distinct_indices JoinToBlock none beside (λ v. v.items) (λ v. JoinToBlock v.items shards) shards (λ v h. h) e other c.recovered_block.result ok err in
    record {
      ok = ok;
      found = answers HaveConflict distinct_indices JoinToBlock none beside (λ v. v.items) (λ v. JoinToBlock v.items shards) shards (λ v h. h)
          (λ bytes others. once bytes others shards) c.recovered_block.result ok err;
      too_few = refused TooFew (λ h. h);
      mismatch = refused Mismatch (λ h. h);
      index = refused Index (λ h. h);
      conflict = refused Conflict (λ h. h);
      inconsistent = refused Inconsistent (λ h. h);
    }
