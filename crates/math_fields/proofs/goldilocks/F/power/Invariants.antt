use Rattle.std.proofs.Common.{◌≡◌, ◌*◌, ◌%◌}
use Rattle.math_numbers.specs.Goldilocks.{P}
use Rattle.math_numbers.specs.PowersModulo.{power_mod}
use Rattle.math_fields.proofs.goldilocks.F.power.Given as goal

abbrev pub invariant-loop-left : goal.invariant-loop-left
invariant-loop-left l = record { rest : l.out.value * power_mod P l.base.value l.left % P ≡ power_mod P l.fn.self.value l.fn.n }

abbrev pub decreases-loop-left : goal.decreases-loop-left
decreases-loop-left l = l.left
