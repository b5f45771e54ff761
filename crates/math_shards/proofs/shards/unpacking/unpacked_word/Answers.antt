use Rattle.std.proofs.Common.{arith, ◌∙◌, ◌-◌, ◌*◌, ◌/◌, ◌%◌, ◌^◌}
use Rattle.math_shards.proofs.UnpackedWords.{word_from_elements}
use Rattle.math_shards.proofs.shards.unpacking.unpacked_word.Goals as goal

pub returns : goal.returns
returns c = grind (arith, word_from_elements)
