use Rattle.std.proofs.Common.{rules, ◌≡◌, ◌∙◌, ap, sym, Some, None, drop, length, ◌≤◌, ◌++◌, ◌∷◌, [], arith}
use Rattle.math_base.proofs.SampleLists.{no_samples, sample_behind, samples_end}
use Rattle.math_base.specs.Samples.{samples}
use Rattle.math_base.specs.declared.algebra.RandomError.TheVariants.{TooManyWords}
use Rattle.std.proofs.lemmas.List.{drop-append-le}
use Rattle.math_poly.proofs.poly.Poly.new_with_constant.Goals as goal

pub loop-sampled-init : goal.loop-sampled-init
loop-sampled-init g c =
    let items = c.in_ok-push.ensures.items ∙ ap (λ l. l ++ c.args.constant ∷ []) c.new-coefficients.ensures.items in
    record {
      count = search rules;
      constant = search rules;
      sampled = no_samples g.K.Random.sample (g.G.Rng.stream c.args.rng.now) ∙ ap (λ l. (Some (drop 1 l), g.G.Rng.stream c.args.rng.now)) (sym items);
    }

pub returns-in_err-coefficient-clause-refused : goal.returns-in_err-coefficient-clause-refused
returns-in_err-coefficient-clause-refused g c =
    let ended : c.in_err-coefficient.field-0.0 ≡ TooManyWords → samples g.K.Random.sample c.args.degree (g.G.Rng.stream c.args.rng.now) ≡ (None, g.G.Rng.stream c.random.new.rng)
    = λ e. samples_end g.K.Random.sample c.loop-sampled._sampled c.args.degree _ _ _ _ c.loop-sampled.invariant.sampled (c.in_err-coefficient.ensures.refused e) c.loop-sampled-test.true in
    search rules

pub loop-sampled-preserved : goal.loop-sampled-preserved
loop-sampled-preserved g c =
    let i = c.loop-sampled.invariant in
    let items = c.in_ok-push-2.ensures.items in
    let before = c.loop-sampled.coefficients.items in
    let has_one : 1 ≤ length before = omega (arith, i.count) in
    record {
      count = search rules;
      constant = search rules;
      sampled = sample_behind g.K.Random.sample c.loop-sampled._sampled _ _ _ _ _ i.sampled c.in_ok-coefficient.ensures.sampled
          ∙ ap (λ l. (Some l, g.G.Rng.stream c.random.new.rng)) (sym (ap (drop 1) items ∙ drop-append-le 1 before (c.in_ok-coefficient.coefficient ∷ []) has_one));
    }
