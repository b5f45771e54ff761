-- Sums of products of words, as whole numbers.
use Rattle.std.specs.Prelude.{ℕ, ◌+◌, ◌*◌, ◌^◌, List}
use Rattle.math_theory.specs.Sums.{weighted_sum}
use Rattle.math_fields.specs.declared.goldilocks.F.{F}
use Rattle.math_fields.specs.Elements.{number}
use Rattle.math_values.specs.declared.wide.WideSum.{WideSum}

-- the number that a wide sum, a sum of products with its carries, stands for
abbrev pub total : WideSum → ℕ
total wide = wide.sum + 2 ^ 128 * wide.carries

-- the sum of each word times the number of its weight
abbrev pub products : List ℕ → List F → ℕ
products words weights = weighted_sum 0 ◌+◌ (λ word weight. word * number weight) words weights
