use Rattle.std.proofs.Common.{arith, ◌∙◌, ◌%◌}
use Rattle.math_splitting.proofs.PackedWords.{packed_from_words}
use Rattle.math_splitting.proofs.shards.strips.packed_at.Goals as goal

pub returns : goal.returns
returns g c = grind (arith, packed_from_words)
