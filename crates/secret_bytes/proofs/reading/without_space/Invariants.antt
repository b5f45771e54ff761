use Rattle.std.proofs.Common.{◌≡◌, ◌++◌, length}
use Rattle.secret_bytes.specs.Readings.{unspaced}
use Rattle.secret_bytes.proofs.reading.without_space.Given as goal

-- what is kept so far, and what will be kept of the rest
abbrev pub invariant-loop-byte : goal.invariant-loop-byte
invariant-loop-byte l = l.out.items ++ unspaced l.passed l.rest ≡ unspaced 0 l.text

abbrev pub decreases-loop-byte : goal.decreases-loop-byte
decreases-loop-byte l = length l.rest
