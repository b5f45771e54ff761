use Rattle.std.proofs.Common.{rules, ◌≡◌, ◌+◌, None, [], arith}
use Rattle.math_base.specs.Samples.{samples}
use Rattle.math_base.specs.declared.algebra.RandomError.TheVariants.{TooManyWords}
use Rattle.math_base.proofs.SampleLists.{no_samples, samples_end, none_behind_first, samples_behind_first}
use Rattle.math_poly.proofs.poly.Poly.new.Goals as goal

pub returns-in_err-constant-clause-refused : goal.returns-in_err-constant-clause-refused
returns-in_err-constant-clause-refused g c =
    let ended : c.in_err-constant.field-0.0 ≡ TooManyWords → samples g.K.Random.sample (c.args.degree + 1) (g.G.Rng.stream c.args.rng.now) ≡ (None, g.G.Rng.stream c.random.new.rng)
    = λ e. samples_end g.K.Random.sample 0 (c.args.degree + 1) _ _ _ [] (no_samples g.K.Random.sample _) (c.in_err-constant.ensures.refused e) (omega arith) in
    search rules

pub returns-in_err-p-clause-refused : goal.returns-in_err-p-clause-refused
returns-in_err-p-clause-refused g c =
    let ended : c.in_err-p.field-0.0 ≡ TooManyWords → samples g.K.Random.sample (c.args.degree + 1) (g.G.Rng.stream c.args.rng.now) ≡ (None, g.G.Rng.stream c.new_with_constant.new.rng)
    = λ e. none_behind_first g.K.Random.sample c.args.degree _ _ _ _ c.in_ok-constant.ensures.sampled (c.in_err-p.ensures.refused e) in
    search rules

pub returns-clause-sampled : goal.returns-clause-sampled
returns-clause-sampled g c =
    samples_behind_first g.K.Random.sample c.args.degree _ _ _ c.in_ok-constant.constant c.in_ok-p.p c.in_ok-constant.ensures.sampled c.in_ok-p.ensures.sampled c.in_ok-p.ensures.constant
