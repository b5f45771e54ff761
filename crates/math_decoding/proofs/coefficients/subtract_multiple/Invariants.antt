use Rattle.std.proofs.Common.{◌≡◌, ℕ, ◌+◌, ◌<◌, ◌≤◌, length}
use Rattle.math_theory.specs.Coefficients.{coefficient}
use Rattle.math_decoding.proofs.coefficients.subtract_multiple.Given as goal

-- the first j coefficients are taken away, and the others are as they were
abbrev pub invariant-loop-j : goal.invariant-loop-j
invariant-loop-j g l =
    let zero = g.F.Additive.zero in
    record {
      count : length l.p ≡ length l.initial.p;
      before : (k : ℕ) → k < l.from → coefficient zero l.p k ≡ coefficient zero l.initial.p k;
      done : (k : ℕ) → k < l.j → g.F.Object.same (coefficient zero l.p (l.from + k))
          (g.F.Additive.sum (coefficient zero l.initial.p (l.from + k)) (g.F.Additive.negative (g.F.Multiplicative.product (coefficient zero l.by k) l.c)));
      rest : (k : ℕ) → l.j ≤ k → coefficient zero l.p (l.from + k) ≡ coefficient zero l.initial.p (l.from + k);
    }
