use Rattle.std.proofs.Common.{◌≡◌, ◌+◌, ◌≤◌, ℕ, length, take, get_or}
use Rattle.math_theory.specs.Powers.{power}
use Rattle.math_theory.specs.Values.{value}
use Rattle.math_transforms.proofs.vanishing.times_root.Given as goal

-- the first i coefficients, and `before` as the next, are those of the product of the first i that there were
abbrev pub invariant-loop-i : goal.invariant-loop-i
invariant-loop-i g l =
    let sum = g.F.Additive.sum in
    let product = g.F.Multiplicative.product in
    let zero = g.F.Additive.zero in
    let one = g.F.Ring.one in
    record {
      count : length l.coefficients.items ≡ length l.initial.coefficients.items;
      rest : (k : ℕ) → l.i ≤ k → get_or l.coefficients.items k zero ≡ get_or l.initial.coefficients.items k zero;
      values : (r : _) → g.F.Object.same (sum (value zero sum product one r (take l.i l.coefficients.items)) (product (power one product r l.i) l.before))
          (product (value zero sum product one r (take l.i l.initial.coefficients.items)) (sum r (g.F.Additive.negative l.root)));
      butterflies : l.work.butterflies ≡ l.initial.work.butterflies;
      root_products : l.work.root_products ≡ l.initial.work.root_products + l.i;
    }
