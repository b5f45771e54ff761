use Rattle.std.proofs.Common.{◌≡◌, ℕ, ◌<◌, ◌≤◌, get_or}
use Rattle.math_transforms.proofs.row_products.multiply_row.Given as goal

-- the cells so far are multiplied, and the others are as they were
abbrev pub invariant-loop-cell : goal.invariant-loop-cell
invariant-loop-cell g l =
    let zero = g.F.Additive.zero in
    record {
      done : (k : ℕ) → k < l.cell-index → g.F.Object.same (get_or l.cells k zero) (g.F.Multiplicative.product (get_or l.initial.cells k zero) l.factor);
      rest : (k : ℕ) → l.cell-index ≤ k → get_or l.cells k zero ≡ get_or l.initial.cells k zero;
    }
