use Rattle.std.proofs.Common.{ℕ, ◌+◌, ◌-◌, ◌<◌, ◌≤◌, get_or, length}
use Rattle.math_fields.specs.Elements.{same}
use Rattle.math_splitting.specs.DataWords.{words_in}
use Rattle.math_splitting.specs.Strips.{packed_at}
use Rattle.math_splitting.proofs.SameCells.{nought}
use Rattle.math_splitting.proofs.shards.strips.write_packed.Given as goal

-- the elements so far
abbrev pub invariant-loop-done : goal.invariant-loop-done
invariant-loop-done g l = record {
  within : l.done ≤ length l.cells;
  packed : (j : ℕ) → j < l.done → same (get_or l.cells j nought) (packed_at (words_in g.W.Word.word l.source) (l.first + j));
}

abbrev pub decreases-loop-done : goal.decreases-loop-done
decreases-loop-done g l = length l.initial.cells - l.done
