use Rattle.std.proofs.Common.{◌≡◌, ℕ, ◌+◌, ◌<◌, length, take, get_or}
use Rattle.math_theory.specs.Coefficients.{coefficient}
use Rattle.math_theory.specs.RootProducts.{root_product}
use Rattle.math_theory.specs.Values.{value}
use Rattle.math_decoding.proofs.interpolation.interpolate_with_product.Given as goal

-- the product for the first i points, its greatest coefficient one, and a polynomial of i coefficients through the first i values
abbrev pub invariant-loop-i : goal.invariant-loop-i
invariant-loop-i g l =
    let zero = g.F.Additive.zero in
    let sum = g.F.Additive.sum in
    let product = g.F.Multiplicative.product in
    let one = g.F.Ring.one in
    record {
      long : length l.product.items ≡ l.i + 1;
      leading : g.F.Object.same (coefficient zero l.product.items l.i) one;
      roots : (r : _) → g.F.Object.same (value zero sum product one r l.product.items) (root_product sum g.F.Additive.negative product one r (take l.i l.points));
      count : length l.through.items ≡ l.i;
      fits : (k : ℕ) → k < l.i → g.F.Object.same (value zero sum product one (get_or l.points k zero) l.through.items) (get_or l.values k zero);
    }
