use Rattle.std.proofs.Common.{ℕ, ◌+◌, ◌<◌, get_or, map}
use Rattle.math_fields.specs.Elements.{same}
use Rattle.math_splitting.specs.Strips.{piece_of}
use Rattle.math_splitting.proofs.SameCells.{nought}
use Rattle.math_splitting.proofs.shards.strips.write_pieces.Given as goal

-- the pieces so far
abbrev pub invariant-loop-k : goal.invariant-loop-k
invariant-loop-k g l = (j : ℕ) → j < l.k
    → same (get_or l.cells j nought) (piece_of (get_or (map g.W.Word.word l.before) j 0) (get_or (map g.W.Word.word l.next) j 0) (l.taken + j))
