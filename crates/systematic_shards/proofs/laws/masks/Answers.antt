use Rattle.systematic_shards.proofs.Masks.{masked-twice}
use Rattle.systematic_shards.proofs.laws.masks.Goals as goal

pub returns : goal.returns
returns c = masked-twice
