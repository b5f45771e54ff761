use Rattle.std.proofs.Common.{length}
use Rattle.secret_bytes.proofs.GatheredLines.{IsWalked}
use Rattle.secret_bytes.proofs.text.line_of_letter.Given as goal

abbrev pub invariant-loop-left : goal.invariant-loop-left
invariant-loop-left l = IsWalked l.text l.number l.place l.letters.items l.left l.at l.rest

abbrev pub decreases-loop-left : goal.decreases-loop-left
decreases-loop-left l = length l.rest
