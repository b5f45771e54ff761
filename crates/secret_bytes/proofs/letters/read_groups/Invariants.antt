use Rattle.std.proofs.Common.{length}
use Rattle.secret_bytes.proofs.LettersRead.{IsReadSoFar}
use Rattle.secret_bytes.proofs.letters.read_groups.Given as goal

-- what was read, and what is left
abbrev pub invariant-loop-rest : goal.invariant-loop-rest
invariant-loop-rest l = IsReadSoFar l.text l.bytes.items l.rest l.first

abbrev pub decreases-loop-rest : goal.decreases-loop-rest
decreases-loop-rest l = length l.rest
