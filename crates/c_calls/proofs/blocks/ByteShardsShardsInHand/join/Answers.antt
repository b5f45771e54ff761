use Rattle.c_calls.proofs.ShardBytes.{sound_block}
use Rattle.c_calls.proofs.blocks.ByteShardsShardsInHand.join.Goals as goal

pub returns-clause-sound : goal.returns-clause-sound
returns-clause-sound c = λ block h. let held = c.args.self in sound_block block held.min held.total held.indices.now held.bytes.now h
