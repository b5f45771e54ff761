use Rattle.std.proofs.Common.{◌+◌, ◌*◌}
use Rattle.systematic_shards.specs.Correcting.{cells_at}
use Rattle.systematic_shards.specs.Shards.{word_in}
use Rattle.row_interpolation.specs.Written.{AreWritten}
use Rattle.systematic_shards.proofs.correcting.write_row.Given as goal

-- the words so far are written
abbrev pub invariant-loop-k : goal.invariant-loop-k
invariant-loop-k g l =
    AreWritten (λ k. l.place * l.fn.code.split.width + k) (λ k. word_in l.fn.code.split.min l.fn.code.mask l.index (cells_at l.fn.code.split.width l.cells l.index k)) l.k (g.M.WordMemory.word l.initial.out) (g.M.WordMemory.word l.out)
