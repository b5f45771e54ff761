use Rattle.math_shards.proofs.JoinedCorrection.{joined_corrected}
use Rattle.c_calls.proofs.shards.WordShardsShardsInHand.join.Goals as goal

pub returns-clause-sound : goal.returns-clause-sound
returns-clause-sound c = λ words h. (h.0, h.1, joined_corrected words h.0 h.2)
