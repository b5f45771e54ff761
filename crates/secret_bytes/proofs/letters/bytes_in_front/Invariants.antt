use Rattle.std.proofs.Common.{◌≤◌, length}
use Rattle.secret_bytes.proofs.letters.bytes_in_front.Given as goal

-- what is left is no longer than the text
abbrev pub invariant-loop-byte : goal.invariant-loop-byte
invariant-loop-byte l = length l.rest ≤ length l.text

abbrev pub decreases-loop-byte : goal.decreases-loop-byte
decreases-loop-byte l = length l.rest
