use Rattle.std.proofs.Common.{◌≡◌, ℕ, ◌<◌}
use Rattle.systematic_shards.specs.Correcting.{cells_at}
use Rattle.systematic_shards.specs.Shards.{word_in}
use Rattle.systematic_shards.proofs.correcting.is_row.Given as goal

-- the words so far are those of the cells
abbrev pub invariant-loop-k : goal.invariant-loop-k
invariant-loop-k g l =
    (i : ℕ) → i < l.k → g.M.WordMemory.word l.row.cells.now i ≡ word_in l.fn.code.split.min l.fn.code.mask l.row.index (cells_at l.fn.code.split.width l.cells l.row.index i)
