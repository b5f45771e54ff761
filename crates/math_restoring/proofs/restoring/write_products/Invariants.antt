use Rattle.std.proofs.Common.{ℕ, ◌<◌, get_or}
use Rattle.math_fields.specs.Elements.{product, same}
use Rattle.math_restoring.proofs.CombinedColumns.{nought}
use Rattle.math_restoring.proofs.restoring.write_products.Given as goal

-- the products so far
abbrev pub invariant-loop-k : goal.invariant-loop-k
invariant-loop-k l = (j : ℕ) → j < l.k → same (get_or l.room j nought) (product (get_or l.cells j nought) l.factor)
