use Rattle.std.proofs.Common.{◌≡◌, ℕ, suc, ◌<◌, ◌≤◌, length, drop, get_or}
use Rattle.math_theory.specs.Sums.{total}
use Rattle.math_base.proofs.weights.times_after.Given as goal

-- the items from place i on are multiplied, and those before it are as they were
abbrev pub invariant-loop-i : goal.invariant-loop-i
invariant-loop-i g l =
    let same = g.R.Object.same in
    let product = g.R.Multiplicative.product in
    let zero = g.R.Additive.zero in
    let all = total g.R.Ring.one product in
    record {
      after : same l.after (product l.fn.start (all (drop l.i l.factors)));
      before : (k : ℕ) → k < l.i → get_or l.items k zero ≡ get_or l.initial.items k zero;
      done : (k : ℕ) → l.i ≤ k → k < length l.factors → same (get_or l.items k zero) (product (get_or l.initial.items k zero) (product l.fn.start (all (drop (suc k) l.factors))));
    }
