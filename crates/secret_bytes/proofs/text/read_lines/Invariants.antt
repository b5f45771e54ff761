use Rattle.std.proofs.Common.{length}
use Rattle.secret_bytes.proofs.GatheredLines.{IsReadTo}
use Rattle.secret_bytes.proofs.text.read_lines.Given as goal

abbrev pub invariant-loop-rest : goal.invariant-loop-rest
invariant-loop-rest l = IsReadTo l.text l.rest l.number l.lines.shares.items l.lines.numbers.items

abbrev pub decreases-loop-rest : goal.decreases-loop-rest
decreases-loop-rest l = length l.rest
