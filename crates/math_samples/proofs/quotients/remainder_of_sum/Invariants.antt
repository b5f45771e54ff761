use Rattle.std.proofs.Common.{◌≡◌, take}
use Rattle.math_samples.specs.ByteSums.{remainder_of_sum}
use Rattle.math_samples.proofs.quotients.remainder_of_sum.Given as goal

-- the total of the bytes so far
abbrev pub invariant-loop-byte : goal.invariant-loop-byte
invariant-loop-byte l = l.total ≡ remainder_of_sum (take l.byte-index l.bytes)
