use Rattle.std.proofs.Common.{length}
use Rattle.secret_bytes.proofs.GatheredLines.{IsGathered}
use Rattle.secret_bytes.proofs.text.letters_of_share.Given as goal

abbrev pub invariant-loop-letters : goal.invariant-loop-letters
invariant-loop-letters l = IsGathered l.text l.letters.items l.count l.rest

abbrev pub decreases-loop-letters : goal.decreases-loop-letters
decreases-loop-letters l = length l.rest
