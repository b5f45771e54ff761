use Rattle.math_splitting.specs.DataWords.{words_in}
use Rattle.math_splitting.proofs.StripColumns.{HoldRows}
use Rattle.math_splitting.proofs.shards.strips.write_strip.Given as goal

-- the rows so far
abbrev pub invariant-loop-row : goal.invariant-loop-row
invariant-loop-row g l = HoldRows (words_in g.W.Word.word l.source) l.strip.layout.width l.strip.from l.strip.cols l.row l.cells
