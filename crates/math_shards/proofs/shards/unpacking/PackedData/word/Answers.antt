use Rattle.std.proofs.Common.{arith, ◌∙◌, ◌+◌}
use Rattle.math_shards.proofs.UnpackedWords.{word_of_data}
use Rattle.math_shards.proofs.shards.unpacking.PackedData.word.Goals as goal

pub returns : goal.returns
returns c = grind (arith, word_of_data)
