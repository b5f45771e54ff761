use Rattle.std.proofs.Common.{◌≡◌, ◌+◌, drop, length, slice_get, Some}
use Rattle.math_base.specs.Samples.{samples}
use Rattle.math_poly.proofs.poly.Poly.new_with_constant.Given as goal

-- the constant, and then as many samples as were taken
abbrev pub invariant-loop-sampled : goal.invariant-loop-sampled
invariant-loop-sampled g l = record {
  count : length l.coefficients.items ≡ l._sampled + 1;
  constant : slice_get l.coefficients.items 0 ≡ Some l.fn.constant;
  sampled : samples g.K.Random.sample l._sampled (g.G.Rng.stream l.fn.rng) ≡ (Some (drop 1 l.coefficients.items), g.G.Rng.stream l.rng);
}
