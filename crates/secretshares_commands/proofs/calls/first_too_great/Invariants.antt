use Rattle.std.proofs.Common.{take}
use Rattle.std.specs.List.{All}
use Rattle.secretshares_commands.specs.Answers.{CanBeDealt}
use Rattle.secretshares_commands.proofs.calls.first_too_great.Given as goal

-- the shares so far can be dealt
abbrev pub invariant-loop-place : goal.invariant-loop-place
invariant-loop-place l = All CanBeDealt (take l.place l.shares)
