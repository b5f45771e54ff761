use Rattle.std.proofs.Common.{◌≡◌, ◌≤◌, length}
use Rattle.shardfile_commands.proofs.splitting.fill.Given as goal

-- no more bytes are filled than there are
abbrev pub invariant-loop-turn : goal.invariant-loop-turn
invariant-loop-turn g l = record {
  within : l.count ≤ length l.buffer;
  size : length l.buffer ≡ length l.initial.buffer;
}
