use Rattle.std.proofs.Common.{◌≡◌}
use Rattle.math_fields.specs.Roots.{squared, greatest_root}
use Rattle.math_fields.proofs.goldilocks.F.root_of_unity.Given as goal

abbrev pub invariant-loop-done : goal.invariant-loop-done
invariant-loop-done l = l.out.value ≡ squared l._done greatest_root
