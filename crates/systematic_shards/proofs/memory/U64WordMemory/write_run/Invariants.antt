use Rattle.std.proofs.Common.{◌+◌, get_or}
use Rattle.row_interpolation.specs.Written.{AreWritten}
use Rattle.systematic_shards.proofs.memory.U64WordMemory.write_run.Given as goal

-- the words so far
abbrev pub invariant-loop-k : goal.invariant-loop-k
invariant-loop-k l = AreWritten (λ j. l.at + j) (λ j. get_or l.words j 0) l.k (λ i. get_or l.initial.cells i 0) (λ i. get_or l.cells i 0)
