use Rattle.std.proofs.Common.{◌^◌}
use Rattle.math_theory.specs.Powers.{power}
use Rattle.math_fields.specs.Elements.{product, residue, same}
use Rattle.math_restoring.proofs.dividing.square_times.Given as goal

-- so many squarings make this power
abbrev pub invariant-loop-done : goal.invariant-loop-done
invariant-loop-done l = same l.out (power (residue 1) product l.initial.out (2 ^ l._done))
