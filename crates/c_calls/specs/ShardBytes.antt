-- Bytes as shards of a block of bytes, a shard a row.
use Rattle.std.specs.Prelude.{◌≡◌, ℕ, ◌*◌, ◌<◌, ◌^◌, List, length}
use Rattle.std.specs.Int.{to_be_bytes, w64}
use Rattle.std.specs.List.{flat_map}
use Rattle.math_splitting.specs.declared.shards.Shard.{Shard}
use Rattle.math_shards.specs.declared.shards.Error.{Error}
use Rattle.math_splitting.specs.Shards.{width_for}
use Rattle.shard_blocks.specs.BlockWords.{words_of_bytes}
use Rattle.shard_blocks.specs.Blocks.{IsBlockDue, JoinToBlock}
use Rattle.shard_blocks.specs.Correcting.{AreCorrectedBlock, IsBlockDueCorrecting}
use Rattle.c_calls.specs.WordElements.{AreElements}
use Rattle.c_calls.specs.WordShards.{AreWordShards, AreWordsOfShards}

-- the words as bytes: eight each, the highest first
abbrev pub word_bytes : List ℕ → List ℕ
word_bytes words = flat_map (to_be_bytes w64) words

-- the bytes are words below P
abbrev pub SpellElements : List ℕ → Type 0
SpellElements bytes = (words : List ℕ) × AreElements words × (bytes ≡ word_bytes words)

-- the shards of a block of `bytes` bytes, of which `min` give it back, have `size` bytes each; the bytes of all shards are below 2^60
pub record HaveShardBytes (bytes min total size : ℕ) : Type 0 where
  pub count : (block : List ℕ) → length block ≡ bytes → size ≡ 8 * width_for min (words_of_bytes block)
  pub room : total * size < 2 ^ 60

-- n bytes are as many rows of words as there are indices
abbrev pub AreByteRowsOf : ℕ → ℕ → Type 0
AreByteRowsOf n rows = (cols : ℕ) × (n ≡ 8 * (rows * cols))

-- the bytes are, row by row, the shards of the block, in the order of their indices
abbrev pub AreBytesOfShards : List ℕ → ℕ → ℕ → List ℕ → Type 0
AreBytesOfShards block min total bytes = (cells : List ℕ) × AreWordsOfShards (words_of_bytes block) min total cells × (bytes ≡ word_bytes cells)

-- the shards that the bytes are give the block back
abbrev pub DoJoinToBlock : List ℕ → ℕ → ℕ → List ℕ → List ℕ → Type 0
DoJoinToBlock block min total indices bytes =
    (cells : List ℕ) × (bytes ≡ word_bytes cells) × (shards : List Shard) × AreWordShards min total indices cells shards × JoinToBlock block shards

-- this is wrong with the shards that the bytes are
abbrev pub AreBlockRefused : Error → ℕ → ℕ → List ℕ → List ℕ → Type 0
AreBlockRefused e min total indices bytes =
    (cells : List ℕ) × (bytes ≡ word_bytes cells) × (shards : List Shard) × AreWordShards min total indices cells shards × IsBlockDue shards e

-- the shards that the bytes are have this block, however some are wrong, and these are the positions of the wrong ones
abbrev pub DoCorrectToBlock : List ℕ → List ℕ → ℕ → ℕ → List ℕ → List ℕ → Type 0
DoCorrectToBlock block positions min total indices bytes =
    (cells : List ℕ) × (bytes ≡ word_bytes cells) × (shards : List Shard) × AreWordShards min total indices cells shards × AreCorrectedBlock block positions shards

-- this is wrong with the shards that the bytes are, where they are corrected
abbrev pub AreBlockRefusedCorrecting : Error → ℕ → ℕ → List ℕ → List ℕ → Type 0
AreBlockRefusedCorrecting e min total indices bytes =
    (cells : List ℕ) × (bytes ≡ word_bytes cells) × (shards : List Shard) × AreWordShards min total indices cells shards × IsBlockDueCorrecting shards e
