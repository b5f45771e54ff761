use Rattle.std.proofs.Common.{◌≡◌, ℕ, ◌<◌, length, get_or}
use Rattle.math_theory.specs.Interpolation.{weight_divisor}
use Rattle.math_poly.proofs.weights.weights_at.Given as goal

-- the divisors so far
abbrev pub invariant-loop-i : goal.invariant-loop-i
invariant-loop-i g l =
    let zero = g.F.Additive.zero in
    record {
      count : length l.divisors.items ≡ l.i;
      each : (k : ℕ) → k < l.i
          → g.F.Object.same (get_or l.divisors.items k zero) (weight_divisor zero g.F.Additive.sum g.F.Additive.negative g.F.Multiplicative.product g.F.Ring.one l.x l.points k);
    }
