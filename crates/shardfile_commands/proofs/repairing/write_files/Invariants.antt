use Rattle.shardfile_commands.proofs.repairing.write_files.Given as goal

abbrev pub decreases-loop-new : goal.decreases-loop-new
decreases-loop-new l = l.new.writer.left
