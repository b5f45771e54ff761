use Rattle.std.proofs.Common.{◌≡◌, length}
use Rattle.math_values.specs.Values.{ArePowersOf}
use Rattle.math_values.proofs.BlockValues.{power_of}
use Rattle.math_values.proofs.values.powers_of.Given as goal

-- the powers so far, and the next one
abbrev pub invariant-loop-done : goal.invariant-loop-done
invariant-loop-done l = record {
  count : length l.out.items ≡ l._done;
  powers : ArePowersOf l.x l.out.items;
  next : l.power ≡ power_of l.x l._done;
}
