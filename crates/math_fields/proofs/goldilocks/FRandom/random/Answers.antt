use Rattle.std.proofs.Common.{refl, ◌∙◌, sym, ap, ◌-◌, arith}
use Rattle.math_base.specs.Samples.{first_below}
use Rattle.math_fields.proofs.SampleSteps.{word_found, word_missed, no_words, sample_found, no_sample}
use Rattle.math_fields.proofs.goldilocks.FRandom.random.Goals as goal

pub returns-then-word-lt-MODULUS-clause-sampled : goal.returns-then-word-lt-MODULUS-clause-sampled
returns-then-word-lt-MODULUS-clause-sampled g c =
    sample_found _ _ _
    (sym c.loop-looked_at.invariant ∙ word_found (64 - c.loop-looked_at._looked_at) _ _ _ (omega arith) c.next_u64-word.ensures c.if-word-lt-MODULUS.true)

pub loop-looked_at-preserved : goal.loop-looked_at-preserved
loop-looked_at-preserved g c =
    ap (λ n. first_below n (g.G.Rng.stream c.next_u64-word.new.self)) (omega arith)
    ∙ sym (word_missed (64 - c.loop-looked_at._looked_at) _ _ _ (omega arith) c.next_u64-word.ensures c.if-word-lt-MODULUS.false) ∙ c.loop-looked_at.invariant

pub returns-clause-refused : goal.returns-clause-refused
returns-clause-refused g c = (refl, no_sample _ _ (sym c.loop-looked_at.invariant ∙ no_words (64 - c.loop-looked_at._looked_at) _ (omega arith)))
