use Rattle.std.proofs.Common.{◌≡◌}
use Rattle.shardfile_commands.proofs.repairing.copy_records.Given as goal

-- bytes are added at the end of the last file alone
abbrev pub invariant-loop-number : goal.invariant-loop-number
invariant-loop-number l = l.writer.left ≡ l.initial.writer.left
