use Rattle.std.proofs.Common.{ℕ, ◌+◌, ◌<◌, get_or}
use Rattle.math_fields.specs.Elements.{same}
use Rattle.math_splitting.specs.DataWords.{words_in}
use Rattle.math_splitting.specs.Strips.{packed_at}
use Rattle.math_splitting.proofs.SameCells.{nought}
use Rattle.math_splitting.proofs.shards.strips.pack_run.Given as goal

-- the elements so far
abbrev pub invariant-loop-k : goal.invariant-loop-k
invariant-loop-k g l = (j : ℕ) → j < l.k → same (get_or l.cells j nought) (packed_at (words_in g.W.Word.word l.source) (l.first + j))
