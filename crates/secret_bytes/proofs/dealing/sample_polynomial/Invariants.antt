use Rattle.std.proofs.Common.{◌≡◌, ◌+◌, drop, length, slice_get, Some}
use Rattle.math_fields.specs.Elements.{sample_of}
use Rattle.math_base.specs.Samples.{samples}
use Rattle.secret_bytes.proofs.dealing.sample_polynomial.Given as goal

-- the constant, and then as many samples as were drawn
abbrev pub invariant-loop-drawn : goal.invariant-loop-drawn
invariant-loop-drawn g l = record {
  count : length l.p.items ≡ l._drawn + 1;
  constant : slice_get l.p.items 0 ≡ Some l.fn.element;
  sampled : samples sample_of l._drawn (g.G.Rng.stream l.fn.rng) ≡ (Some (drop 1 l.p.items), g.G.Rng.stream l.rng);
}
