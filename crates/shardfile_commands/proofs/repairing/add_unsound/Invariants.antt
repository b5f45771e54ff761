use Rattle.std.proofs.Common.{◌≡◌}
use Rattle.shardfile_commands.proofs.repairing.add_unsound.Given as goal

-- no block is written
abbrev pub invariant-loop-file : goal.invariant-loop-file
invariant-loop-file l = l.new.writer.left ≡ l.initial.new.writer.left
