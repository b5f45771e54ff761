use Rattle.std.proofs.Common.{◌≡◌, ◌∙◌, ◌+◌, ◌-◌, ◌*◌, refl, arith}
use Rattle.math_shards.proofs.PutCoefficients.{column-more}
use Rattle.math_shards.proofs.shards.weighing.put_column.Goals as goal

pub loop-r-init : goal.loop-r-init
loop-r-init c = record { done = λ i b. absurd (omega arith); others = λ i k a b apart. refl }

pub loop-r-preserved : goal.loop-r-preserved
loop-r-preserved c = grind (arith, column-more)

pub returns : goal.returns
returns c = record { done = λ r b. c.loop-r.invariant.done r (omega (arith, b, c.loop-r-test.false)); others = c.loop-r.invariant.others }
