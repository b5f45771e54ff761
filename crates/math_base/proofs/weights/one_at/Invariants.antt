use Rattle.std.proofs.Common.{◌≡◌, ◌≢◌, ℕ, ◌<◌, length, get_or}
use Rattle.math_base.proofs.weights.one_at.Given as goal

-- the items so far are one in place k, and zero elsewhere
abbrev pub invariant-loop-i : goal.invariant-loop-i
invariant-loop-i g l =
    let zero = g.R.Additive.zero in
    record {
      count : length l.out.items ≡ l.i;
      items : (j : ℕ) → j < l.i → (j ≡ l.k → g.R.Object.same (get_or l.out.items j zero) g.R.Ring.one) × (j ≢ l.k → g.R.Object.same (get_or l.out.items j zero) zero);
    }
