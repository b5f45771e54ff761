use Rattle.std.proofs.Common.{◌≡◌, ◌+◌, ◌*◌, vec_len}
use Rattle.math_theory.specs.Powers.{power}
use Rattle.math_theory.specs.Values.{value}
use Rattle.math_theory.specs.Vanishing.{missing_product}
use Rattle.math_transforms.specs.MissingPoints.{count_false, every}
use Rattle.math_transforms.proofs.vanishing.chunk_product.Given as goal

-- the polynomial of the missing ones of the points so far, the next power, and what it took
abbrev pub invariant-loop-j : goal.invariant-loop-j
invariant-loop-j g l =
    let same = g.F.Object.same in
    let sum = g.F.Additive.sum in
    let product = g.F.Multiplicative.product in
    let one = g.F.Ring.one in
    let places = every l.spaced.start l.spaced.stride l.j l.spaced.points.now in
    record {
      count : vec_len l.coefficients ≡ count_false places + 1;
      power : same l.power (power one product l.root l.j);
      values : (r : _) → same (value g.F.Additive.zero sum product one r l.coefficients.items) (missing_product sum g.F.Additive.negative product one r l.root places);
      butterflies : l.work.butterflies ≡ l.initial.work.butterflies;
      root_products : 2 * l.work.root_products ≡ 2 * l.initial.work.root_products + count_false places * (count_false places + 1);
    }
