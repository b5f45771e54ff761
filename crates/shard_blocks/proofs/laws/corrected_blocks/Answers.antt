use Rattle.math_shards.specs.Correcting.{CorrectTo, settled_indices}
use Rattle.math_shards.proofs.CorrectedShards.{corrected_beside, corrected_of_some, one_correction}
use Rattle.math_shards.proofs.JoinedCorrection.{joined_correct}
use Rattle.shard_blocks.specs.BlockWords.{words_of_bytes}
use Rattle.shard_blocks.proofs.BlockErrors.{block_once}
use Rattle.shard_blocks.proofs.OneWrong.{one_wrong_is_corrected}
use Rattle.shard_blocks.proofs.laws.corrected_blocks.Goals as goal

pub returns-clause-once : goal.returns-clause-once
returns-clause-once c = λ bytes others shards.
    block_once (λ _. ⊥) settled_indices CorrectTo corrected_of_some corrected_beside one_correction bytes others shards

pub returns-clause-joined : goal.returns-clause-joined
returns-clause-joined c = λ bytes shards j. (j.0, joined_correct (words_of_bytes bytes) shards j.1)

pub returns-clause-one_wrong : goal.returns-clause-one_wrong
returns-clause-one_wrong c = one_wrong_is_corrected
