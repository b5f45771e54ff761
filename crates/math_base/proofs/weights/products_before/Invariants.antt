use Rattle.std.proofs.Common.{◌≡◌, ℕ, ◌<◌, length, take, get_or}
use Rattle.math_theory.specs.Sums.{total}
use Rattle.math_base.proofs.weights.products_before.Given as goal

-- the products of the factors before each place so far
abbrev pub invariant-loop-factor : goal.invariant-loop-factor
invariant-loop-factor g l =
    let same = g.R.Object.same in
    let all = total g.R.Ring.one g.R.Multiplicative.product in
    record {
      count : length l.out.items ≡ l.factor-index;
      before : (k : ℕ) → k < l.factor-index → same (get_or l.out.items k g.R.Additive.zero) (all (take k l.factors));
      all : same l.all (all (take l.factor-index l.factors));
    }
