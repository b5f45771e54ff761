use Rattle.std.proofs.Common.{◌≡◌, ◌∙◌, ◌+◌, ◌-◌, ◌/◌, arith}
use Rattle.math_shards.proofs.UnpackedWords.{run_unpacked}
use Rattle.math_shards.proofs.shards.unpacking.unpack_run.Goals as goal

pub returns-then-last-elements : goal.returns-then-last-elements
returns-then-last-elements c = grind (arith, run_unpacked)
