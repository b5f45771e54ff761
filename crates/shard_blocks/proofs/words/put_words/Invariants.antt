use Rattle.std.proofs.Common.{◌≡◌, take}
use Rattle.shard_blocks.proofs.PutWords.{put_in_front}
use Rattle.shard_blocks.proofs.words.put_words.Given as goal

-- the bytes of the words so far were put in front
abbrev pub invariant-loop-i : goal.invariant-loop-i
invariant-loop-i l = l.bytes ≡ put_in_front l.fn.bytes (take l.i l.words)
