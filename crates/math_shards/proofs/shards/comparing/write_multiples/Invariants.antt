use Rattle.std.proofs.Common.{ℕ, ◌<◌, get_or}
use Rattle.math_fields.specs.Elements.{product, same}
use Rattle.math_splitting.proofs.SameCells.{nought}
use Rattle.math_shards.proofs.shards.comparing.write_multiples.Given as goal

-- the multiples so far
abbrev pub invariant-loop-k : goal.invariant-loop-k
invariant-loop-k l = (j : ℕ) → j < l.k → same (get_or l.cells j nought) (product (get_or l.items j nought) l.factor)
