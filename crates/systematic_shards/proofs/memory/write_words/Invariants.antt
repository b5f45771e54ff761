use Rattle.std.proofs.Common.{◌+◌, get_or}
use Rattle.row_interpolation.specs.Written.{AreWritten}
use Rattle.systematic_shards.specs.Words.{word_of_bytes}
use Rattle.systematic_shards.proofs.memory.write_words.Given as goal

-- the words so far
abbrev pub invariant-loop-k : goal.invariant-loop-k
invariant-loop-k l = AreWritten (λ j. l.at + j) (λ j. get_or l.words j 0) l.k (word_of_bytes l.initial.cells) (word_of_bytes l.cells)
