use Rattle.std.proofs.Common.{◌≡◌, ◌++◌, length}
use Rattle.secret_bytes.specs.Readings.{dashed}
use Rattle.secret_bytes.proofs.reading.push_dashed.Given as goal

-- what is written so far, and what will be written of the rest
abbrev pub invariant-loop-byte : goal.invariant-loop-byte
invariant-loop-byte l = l.out.items ++ dashed l.to_come l.rest ≡ l.fn.out.items ++ dashed 0 l.text

abbrev pub decreases-loop-byte : goal.decreases-loop-byte
decreases-loop-byte l = length l.rest
