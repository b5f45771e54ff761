use Rattle.std.proofs.Common.{◌≡◌, ◌∙◌, arith}
use Rattle.std.proofs.lemmas.List.{take_all}
use Rattle.math_base.proofs.WholeWrites.{take-written}
use Rattle.math_shards.proofs.shards.unpacking.PackedData.words.Goals as goal

pub returns : goal.returns
returns c = grind (arith, take_all, take-written)
