use Rattle.shard_format.proofs.RecordPlaces.{blocks}
use Rattle.shard_format.proofs.laws.blocks_make_the_file.Goals as goal

pub returns : goal.returns
returns c = blocks
