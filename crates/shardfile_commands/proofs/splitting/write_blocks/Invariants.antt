use Rattle.shardfile_commands.proofs.splitting.write_blocks.Given as goal

abbrev pub decreases-loop-files : goal.decreases-loop-files
decreases-loop-files l = l.files.left
