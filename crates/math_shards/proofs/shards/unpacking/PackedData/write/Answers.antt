use Rattle.std.proofs.Common.{◌∙◌, ◌+◌, arith}
use Rattle.math_shards.proofs.UnpackedWords.{written_data}
use Rattle.math_shards.proofs.shards.unpacking.PackedData.write.Goals as goal

pub returns : goal.returns
returns c = grind (arith, written_data)
