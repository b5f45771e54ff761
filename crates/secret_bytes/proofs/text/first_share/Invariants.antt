use Rattle.std.proofs.Common.{length}
use Rattle.secret_bytes.specs.Gathered.{IsPassed}
use Rattle.secret_bytes.proofs.text.first_share.Given as goal

abbrev pub invariant-loop-letters : goal.invariant-loop-letters
invariant-loop-letters l = IsPassed l.text l.number l.rest

abbrev pub decreases-loop-letters : goal.decreases-loop-letters
decreases-loop-letters l = length l.rest
