use Rattle.std.proofs.Common.{◌≡◌, ◌+◌, ◌-◌, ◌*◌, ◌≤◌, ℕ, List, drop, length, take}
use Rattle.std.specs.Int.{to_le_bytes, w64}
use Rattle.std.specs.List.{flat_map}
use Rattle.math_shards.specs.PackedWords.{HoldsWords}
use Rattle.shard_blocks.proofs.words.write_block_words.Given as goal

-- the bytes of the words so far are written
abbrev pub invariant-loop-done : goal.invariant-loop-done
invariant-loop-done l = record {
  within : l.done ≤ l.count;
  run : length l.some ≡ 63;
  written : (words : List ℕ) → HoldsWords words l.packed → 1 + l.count ≤ length words → take (8 * l.done) l.bytes ≡ flat_map (to_le_bytes w64) (take l.done (drop 1 words));
}

abbrev pub decreases-loop-done : goal.decreases-loop-done
decreases-loop-done l = l.count - l.done
