use Rattle.std.proofs.Common.{◌≡◌, ℕ, ◌<◌, ◌≤◌}
use Rattle.math_fields.specs.Elements.{product, same, sum}
use Rattle.math_restoring.specs.Restored.{item}
use Rattle.math_restoring.proofs.dividing.add_multiples.Given as goal

-- the sums so far, and the further cells as they were
abbrev pub invariant-loop-k : goal.invariant-loop-k
invariant-loop-k l = record {
  done : (j : ℕ) → j < l.k → same (item l.cells j) (sum (item l.initial.cells j) (product (item l.others j) l.factor));
  rest : (j : ℕ) → l.k ≤ j → item l.cells j ≡ item l.initial.cells j;
}
