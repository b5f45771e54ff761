use Rattle.std.proofs.Common.{◌≡◌, ℕ, ◌<◌, length, get_or}
use Rattle.math_theory.specs.Powers.{power}
use Rattle.math_lagrange.proofs.weights.points.geometric.Given as goal

-- the factors so far, and the next one
abbrev pub invariant-loop-done : goal.invariant-loop-done
invariant-loop-done g l =
    let same = g.F.Object.same in
    let term = λ (i : ℕ). g.F.Multiplicative.product l.fn.start (power g.F.Ring.one g.F.Multiplicative.product l.ratio i) in
    record {
      count : length l.out.items ≡ l._done;
      factors : (i : ℕ) → i < l._done → same (get_or l.out.items i g.F.Additive.zero) (term i);
      next : same l.factor (term l._done);
    }
