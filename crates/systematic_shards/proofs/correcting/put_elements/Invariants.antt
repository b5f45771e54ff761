use Rattle.std.proofs.Common.{◌+◌, ◌*◌}
use Rattle.math_restoring.specs.Restored.{item}
use Rattle.systematic_shards.specs.Shards.{element_in}
use Rattle.row_interpolation.specs.Written.{AreWritten}
use Rattle.systematic_shards.proofs.correcting.put_elements.Given as goal

-- the elements so far are written
abbrev pub invariant-loop-k : goal.invariant-loop-k
invariant-loop-k g l =
    AreWritten (λ k. l.row.index * l.fn.code.split.width + k) (λ k. element_in l.fn.code.split.min l.fn.code.mask l.row.index (g.M.WordMemory.word l.row.cells.now k)) l.k (item l.initial.cells) (item l.cells)
