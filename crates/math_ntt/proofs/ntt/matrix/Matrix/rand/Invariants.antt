use Rattle.std.proofs.Common.{◌≡◌, length, Some}
use Rattle.math_base.specs.Samples.{samples}
use Rattle.math_ntt.proofs.ntt.matrix.Matrix.rand.Given as goal

-- the samples so far
abbrev pub invariant-loop-sampled : goal.invariant-loop-sampled
invariant-loop-sampled g l = record {
  count : length l.cells.items ≡ l._sampled;
  sampled : samples g.F.Random.sample l._sampled (g.G.Rng.stream l.fn.rng) ≡ (Some l.cells.items, g.G.Rng.stream l.rng);
}
