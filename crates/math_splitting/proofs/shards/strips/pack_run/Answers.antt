use Rattle.std.proofs.Common.{◌≡◌, ◌∙◌, ◌+◌, ◌-◌, ◌/◌, ◌≤◌, arith}
use Rattle.math_splitting.proofs.PackedWords.{run_packed}
use Rattle.math_splitting.proofs.SourceWords.{slice-read}
use Rattle.math_splitting.proofs.shards.strips.pack_run.Goals as goal

pub returns-then-next-before-2 : goal.returns-then-next-before-2
returns-then-next-before-2 g c = grind (arith, run_packed, slice-read)
