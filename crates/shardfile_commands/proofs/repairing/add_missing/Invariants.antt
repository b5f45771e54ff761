use Rattle.std.proofs.Common.{◌≡◌}
use Rattle.shardfile_commands.proofs.repairing.add_missing.Given as goal

-- no block is written
abbrev pub invariant-loop-number : goal.invariant-loop-number
invariant-loop-number l = l.new.writer.left ≡ l.initial.new.writer.left
