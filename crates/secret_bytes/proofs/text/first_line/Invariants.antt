use Rattle.std.proofs.Common.{◌≢◌, ◌-◌, ◌≤◌, length, take}
use Rattle.std.specs.List.{All}
use Rattle.secret_bytes.proofs.text.first_line.Given as goal

-- no end of a line so far
abbrev pub invariant-loop-i : goal.invariant-loop-i
invariant-loop-i l = record { within : l.i ≤ length l.text; none : All (λ b. b ≢ 10) (take l.i l.text) }

abbrev pub decreases-loop-i : goal.decreases-loop-i
decreases-loop-i l = length l.text - l.i
