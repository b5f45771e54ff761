use Rattle.std.proofs.Common.{◌≡◌}
use Rattle.shardfile_commands.proofs.splitting.add_all.Given as goal

-- nothing is written of the bytes, and the split is the same
abbrev pub invariant-loop-index : goal.invariant-loop-index
invariant-loop-index l = record {
  left : l.files.left ≡ l.initial.files.left;
  split : l.files.split ≡ l.initial.files.split;
}
