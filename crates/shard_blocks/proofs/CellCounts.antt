-- How many words a block has.
use Rattle.std.proofs.Common.{◌≡◌, ℕ, ◌+◌, ◌*◌, ◌<◌, ◌^◌, List, length, refl, ap, arith}
use Rattle.std.specs.Int.{div_ceil}
use Rattle.math_numbers.specs.Bits.{piece_count}
use Rattle.shard_blocks.specs.BlockWords.{words_of_bytes}
use Rattle.shard_blocks.proofs.OneBlock.{length_of_words}
use Rattle.shard_blocks.proofs.UnpackedBytes.{word_count}

pub count_block_words : (block : List ℕ) (bytes : ℕ) → length block ≡ bytes → length (words_of_bytes block) ≡ div_ceil bytes 8 + 1
count_block_words block bytes count = omega (arith, length_of_words block, ap (λ m. piece_count 64 (8 * m)) count, word_count bytes)

-- so few that they are split
pub few_block_words : (block : List ℕ) → length block < 2 ^ 63 → length (words_of_bytes block) < 2 ^ 61
few_block_words block few = omega (arith, count_block_words block (length block) refl, few)
