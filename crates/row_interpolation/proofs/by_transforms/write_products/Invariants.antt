use Rattle.std.proofs.Common.{◌≡◌, ℕ, ◌+◌, ◌<◌, ◌≤◌, length}
use Rattle.math_fields.specs.Elements.{product, same}
use Rattle.math_restoring.specs.Restored.{item}
use Rattle.row_interpolation.proofs.by_transforms.write_products.Given as goal

-- the products so far, and the elements that are left
abbrev pub invariant-loop-k : goal.invariant-loop-k
invariant-loop-k g l = record {
  done : (i : ℕ) → i < l.k → same (item l.cells i) (product (g.R.ElementRows.element l.rows l.t (l.from + i)) l.factor);
  left : (i : ℕ) → l.k ≤ i → i < length l.cells → item l.cells i ≡ g.R.ElementRows.element l.rows l.t (l.from + i);
}
