use Rattle.std.proofs.Common.{◌≡◌, ◌++◌, length, true}
use Rattle.secret_bytes.specs.Letters.{grouped}
use Rattle.secret_bytes.proofs.letters.push_grouped.Given as goal

-- the letters of the bytes that are left are still to come
abbrev pub invariant-loop-byte : goal.invariant-loop-byte
invariant-loop-byte l = l.out.items ++ grouped l.first l.rest ≡ l.fn.out.items ++ grouped true l.bytes

abbrev pub decreases-loop-byte : goal.decreases-loop-byte
decreases-loop-byte l = length l.rest
