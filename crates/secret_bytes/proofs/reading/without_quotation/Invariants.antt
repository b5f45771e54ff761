use Rattle.std.proofs.Common.{◌≡◌, length}
use Rattle.secret_bytes.specs.Readings.{unquoted}
use Rattle.secret_bytes.proofs.reading.without_quotation.Given as goal

-- without the marks so far
abbrev pub invariant-loop-byte : goal.invariant-loop-byte
invariant-loop-byte l = unquoted l.rest ≡ unquoted l.text

abbrev pub decreases-loop-byte : goal.decreases-loop-byte
decreases-loop-byte l = length l.rest
