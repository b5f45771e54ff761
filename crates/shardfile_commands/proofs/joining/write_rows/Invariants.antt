use Rattle.std.proofs.Common.{◌-◌, ◌+◌, ◌≡◌, ◌≤◌}
use Rattle.shardfile_commands.proofs.joining.write_rows.Given as goal

-- as many bytes are left as before, but those of the block that are written or left out
abbrev pub invariant-loop-at : goal.invariant-loop-at
invariant-loop-at l = record {
  left : l.restored.left + l.at ≡ l.initial.restored.left;
  within : l.at ≤ l.block.bytes;
}

abbrev pub decreases-loop-at : goal.decreases-loop-at
decreases-loop-at l = l.block.bytes - l.at
