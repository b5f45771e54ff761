use Rattle.std.proofs.Common.{◌≡◌, ◌≤◌, length, drop}
use Rattle.secret_bytes.specs.Packings.{number_of_bytes}
use Rattle.secret_bytes.proofs.elements.number_of_bytes.Given as goal

-- the number of the bytes from place i on
abbrev pub invariant-loop-i : goal.invariant-loop-i
invariant-loop-i l = record {
  value : l.n ≡ number_of_bytes (drop l.i l.bytes);
  within : l.i ≤ length l.bytes;
}

abbrev pub decreases-loop-i : goal.decreases-loop-i
decreases-loop-i l = l.i
