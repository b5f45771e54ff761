use Rattle.std.proofs.Common.{arith, rules, ◌≡◌, ◌∙◌, ◌*◌, ap, sym, Some, None}
use Rattle.math_base.specs.Samples.{samples}
use Rattle.math_base.specs.declared.algebra.RandomError.TheVariants.{TooManyWords}
use Rattle.math_base.proofs.SampleLists.{no_samples, sample_behind, samples_end}
use Rattle.math_ntt.proofs.ntt.matrix.Matrix.rand.Goals as goal

pub loop-sampled-init : goal.loop-sampled-init
loop-sampled-init g c = grind (arith, no_samples)

pub returns-in_err-cell-clause-refused : goal.returns-in_err-cell-clause-refused
returns-in_err-cell-clause-refused g c =
    let ended : c.in_err-cell.field-0.0 ≡ TooManyWords → samples g.F.Random.sample (c.args.rows * c.args.cols) (g.G.Rng.stream c.args.rng.now) ≡ (None, g.G.Rng.stream c.random.new.rng)
    = λ e. samples_end g.F.Random.sample c.loop-sampled._sampled (c.args.rows * c.args.cols) _ _ _ _ c.loop-sampled.invariant.sampled (c.in_err-cell.ensures.refused e) c.loop-sampled-test.true in
    search rules

pub loop-sampled-preserved : goal.loop-sampled-preserved
loop-sampled-preserved g c = record {
  count = search rules;
  sampled = sample_behind g.F.Random.sample c.loop-sampled._sampled _ _ _ _ _ c.loop-sampled.invariant.sampled c.in_ok-cell.ensures.sampled
      ∙ ap (λ l. (Some l, g.G.Rng.stream c.random.new.rng)) (sym c.in_ok-push.ensures.items);
}
