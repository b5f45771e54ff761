use Rattle.std.proofs.Common.{◌≡◌, ◌<◌, ◌≤◌, ℕ, get_or}
use Rattle.math_ntt.proofs.ntt.matrix.product.add_multiple.Given as goal

-- the sums before the index have their terms, and the others are as they were
abbrev pub invariant-loop-k : goal.invariant-loop-k
invariant-loop-k g l =
    let zero = g.F.Additive.zero in
    record {
      added : (k : ℕ) → k < l.k → g.F.Object.same (get_or l.sums k zero) (g.F.Additive.sum (get_or l.initial.sums k zero) (g.F.Multiplicative.product l.factor (get_or l.row k zero)));
      rest : (k : ℕ) → l.k ≤ k → get_or l.sums k zero ≡ get_or l.initial.sums k zero;
    }
