use Rattle.std.proofs.Common.{◌≡◌, length}
use Rattle.secret_bytes.specs.LineChecks.{check_from, check_value}
use Rattle.secret_bytes.proofs.line.check_value_of.Given as goal

-- the value of all bytes comes from that of those so far and the others
abbrev pub invariant-loop-byte : goal.invariant-loop-byte
invariant-loop-byte l = check_from l.value l.rest ≡ check_value l.bytes

abbrev pub decreases-loop-byte : goal.decreases-loop-byte
decreases-loop-byte l = length l.rest
