use Rattle.shardfile_commands.proofs.checking.try_blocks.Given as goal

abbrev pub decreases-loop-left : goal.decreases-loop-left
decreases-loop-left l = l.left
