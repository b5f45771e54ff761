use Rattle.std.proofs.Common.{arith, ◌∙◌}
use Rattle.math_ntt.proofs.ComparedTruths.{equal-unless_differ, different-where_true}
use Rattle.math_ntt.proofs.ntt.evaluations.EvaluationVector.equals.Goals as goal

pub returns-then-ne-clause-ok : goal.returns-then-ne-clause-ok
returns-then-ne-clause-ok g c = grind (arith, different-where_true)

pub returns-clause-ok : goal.returns-clause-ok
returns-clause-ok g c = grind (arith, equal-unless_differ)
