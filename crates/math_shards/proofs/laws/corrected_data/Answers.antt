use Rattle.math_shards.proofs.CorrectedShards.{one_correction}
use Rattle.math_shards.proofs.JoinedCorrection.{joined_correct}
use Rattle.math_shards.proofs.laws.corrected_data.Goals as goal

pub returns-clause-once : goal.returns-clause-once
returns-clause-once c = one_correction

pub returns-clause-joined : goal.returns-clause-joined
returns-clause-joined c = joined_correct
