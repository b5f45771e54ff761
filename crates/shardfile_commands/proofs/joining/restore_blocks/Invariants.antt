use Rattle.shardfile_commands.proofs.joining.restore_blocks.Given as goal

abbrev pub decreases-loop-restored : goal.decreases-loop-restored
decreases-loop-restored l = l.restored.left
