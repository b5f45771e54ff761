use Rattle.systematic_shards.proofs.Corrected.{one_correction}
use Rattle.systematic_shards.proofs.laws.corrections.Goals as goal

pub returns : goal.returns
returns g c = one_correction g.M.WordMemory.word
