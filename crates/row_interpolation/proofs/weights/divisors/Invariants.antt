use Rattle.std.proofs.Common.{◌≡◌, ◌<◌, ℕ, length}
use Rattle.math_fields.specs.Elements.{negative, product, sum}
use Rattle.math_restoring.specs.Restored.{item}
use Rattle.row_interpolation.proofs.weights.divisors.Given as goal

-- the divisors so far
abbrev pub invariant-loop-i : goal.invariant-loop-i
invariant-loop-i l = record {
  count : length l.out.items ≡ l.i;
  each : (k : ℕ) → k < l.i → item l.out.items k ≡ product (sum l.x (negative (item l.points k))) (item l.own k);
}
