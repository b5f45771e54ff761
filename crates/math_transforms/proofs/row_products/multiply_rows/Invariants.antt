use Rattle.std.proofs.Common.{◌≡◌, ℕ, ◌<◌, ◌≤◌, ◌+◌, ◌*◌, get_or}
use Rattle.math_transforms.proofs.row_products.multiply_rows.Given as goal

-- the rows so far are multiplied, and the others are as they were
abbrev pub invariant-loop-i : goal.invariant-loop-i
invariant-loop-i g l =
    let zero = g.F.Additive.zero in
    record {
      done : (i k : ℕ) → i < l.i → k < l.cols
          → g.F.Object.same (get_or l.cells (i * l.cols + k) zero) (g.F.Multiplicative.product (get_or l.initial.cells (i * l.cols + k) zero) (get_or l.factors i zero));
      rest : (j : ℕ) → l.i * l.cols ≤ j → get_or l.cells j zero ≡ get_or l.initial.cells j zero;
    }
