use Rattle.std.proofs.Common.{◌≡◌, ◌-◌}
use Rattle.math_base.specs.Samples.{first_below}
use Rattle.math_fields.proofs.goldilocks.FRandom.random.Given as goal

-- what is left to look at gives what the whole would
abbrev pub invariant-loop-looked_at : goal.invariant-loop-looked_at
invariant-loop-looked_at g l = first_below (64 - l._looked_at) (g.G.Rng.stream l.rng) ≡ first_below 64 (g.G.Rng.stream l.fn.rng)
