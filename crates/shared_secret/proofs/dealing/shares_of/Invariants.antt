use Rattle.std.proofs.Common.{◌≡◌, ◌<◌, ◌≤◌, ℕ, map}
use Rattle.std.specs.List.{range_with_len}
use Rattle.math_theory.specs.Powers.{multiple}
use Rattle.math_base.proofs.Members.{ring_members}
use Rattle.shared_secret.specs.Shares.{AreSharesOf}
use Rattle.shared_secret.proofs.dealing.shares_of.Given as goal

-- the shares so far, and the point of the last of them
abbrev pub invariant-loop-i : goal.invariant-loop-i
invariant-loop-i g l =
    let R = ring_members g.F.Multiplicative.product g.F.Debug.debug_output g.F.Object.same g.F.Object.NEVER_REFUSES g.F.Additive.zero g.F.Additive.sum g.F.Additive.negative g.F.Ring.one in
    record {
      indices : map (λ s. s.index) l.shares.items ≡ range_with_len 1 l.i;
      values : AreSharesOf R l.p l.shares.items;
      point : R.same l.point (multiple R.zero R.sum R.one l.i);
      points : (k : ℕ) → 0 < k → k ≤ l.i → ¬ (R.same (multiple R.zero R.sum R.one k) R.zero);
    }
