use Rattle.std.proofs.Common.{◌≡◌}
use Rattle.shardfile_commands.proofs.splitting.write_stream.Given as goal

-- the shards of all bytes that are known are written
abbrev pub invariant-loop-block : goal.invariant-loop-block
invariant-loop-block g l = l.files.left ≡ 0
