use Rattle.std.proofs.Common.{◌+◌, ◌-◌, ◌*◌, ◌≤◌}
use Rattle.row_interpolation.specs.Written.{AreWritten}
use Rattle.systematic_shards.proofs.filling.copy_row.Given as goal

-- the words so far are written
abbrev pub invariant-loop-from : goal.invariant-loop-from
invariant-loop-from g l = record {
  within : l.from ≤ l.width;
  written : AreWritten (λ k. l.place * l.width + k) (g.M.WordMemory.word l.cells) l.from (g.M.WordMemory.word l.initial.out) (g.M.WordMemory.word l.out);
}

abbrev pub decreases-loop-from : goal.decreases-loop-from
decreases-loop-from g l = l.width - l.from
