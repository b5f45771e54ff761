use Rattle.std.proofs.Common.{◌≡◌, ℕ, ◌<◌, ◌≤◌, ◌+◌, ◌*◌, get_or}
use Rattle.math_theory.specs.Powers.{power}
use Rattle.math_transforms.proofs.row_products.dilate_rows.Given as goal

-- the rows so far are multiplied, the others are as they were, and the factor is the power for the next row
abbrev pub invariant-loop-i : goal.invariant-loop-i
invariant-loop-i g l =
    let zero = g.F.Additive.zero in
    let product = g.F.Multiplicative.product in
    record {
      factor : g.F.Object.same l.factor (power g.F.Ring.one product l.ratio l.i);
      done : (i k : ℕ) → i < l.i → k < l.cols
          → g.F.Object.same (get_or l.cells (i * l.cols + k) zero) (product (get_or l.initial.cells (i * l.cols + k) zero) (power g.F.Ring.one product l.ratio i));
      rest : (j : ℕ) → l.i * l.cols ≤ j → get_or l.cells j zero ≡ get_or l.initial.cells j zero;
    }
