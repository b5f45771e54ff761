-- Shards give one block back at most, and chosen shards of a block do.
use Rattle.std.proofs.Common.{◌≡◌, ℕ, ◌+◌, ◌*◌, ◌<◌, ◌≤◌, ◌^◌, List, [], ◌∷◌, length, get_or, ◌∙◌, sym, ap, subst, arith}
use Rattle.std.specs.List.{All}
use Rattle.std.proofs.lemmas.List.{get_or-map, get_or_default, length-map}
use Rattle.std.proofs.lemmas.List.Elements.{All-cons}
use Rattle.std.proofs.lemmas.List.FromFn.{get_or-range_with_len, length-range_with_len}
use Rattle.math_fields.proofs.BitFronts.{pieces_below}
use Rattle.math_numbers.specs.Bits.{cut, piece_count}
use Rattle.math_numbers.proofs.BitLists.{joined-are_bits, length-joined}
use Rattle.math_numbers.proofs.BitPieces.{length-cut}
use Rattle.math_splitting.specs.declared.shards.Shard.{Shard}
use Rattle.math_splitting.specs.Shards.{AreShardsOf, IsSameAsOne, IsShardOf, JoinTo, distinct_indices}
use Rattle.math_shards.proofs.JoinedShards.{chosen_join, joined_first, joined_some, same_shards}
use Rattle.math_splitting.proofs.LeastDomains.{domain_of}
use Rattle.math_shards.proofs.OnlyData.{only_data}
use Rattle.shard_blocks.specs.Blocks.{ChosenShardsGiveBlock, HaveOneBlock, JoinToBlock, LostShardsComeBack}
use Rattle.shard_blocks.specs.BlockWords.{AreBytes, byte_bits, words_of_bytes}
use Rattle.shard_blocks.proofs.UnpackedBytes.{words_once}

-- shards give one block back at most
pub one_block : HaveOneBlock
one_block bytes others shards j k = words_once bytes others j.0 k.0 (only_data (words_of_bytes bytes) (words_of_bytes others) shards j.1 k.1)

-- how many words follow the first one
pub length_of_words : (bytes : List ℕ) → length (words_of_bytes bytes) ≡ piece_count 64 (8 * length bytes) + 1
length_of_words bytes =
    let packed : length (cut 64 (byte_bits bytes)) ≡ piece_count 64 (8 * length bytes) = length-cut 64 (byte_bits bytes) ∙ ap (piece_count 64) (length-joined 8 bytes) in
    omega (arith, packed)

-- the words of a block are such as are split
each_word : (bytes : List ℕ) → AreBytes bytes → All (λ word. word < 2 ^ 64) (words_of_bytes bytes)
each_word bytes of =
    let bits = byte_bits bytes in
    All-cons (λ word. word < 2 ^ 64) (length bytes) (cut 64 bits) of.few (pieces_below 64 (piece_count 64 (length bits)) bits (joined-are_bits 8 bytes))

pub chosen_give_block : ChosenShardsGiveBlock
chosen_give_block bytes min total shards chosen of some within short split each_same enough = (
  of,
  chosen_join (words_of_bytes bytes) min total shards chosen some within short (each_word bytes of) (omega (arith, length_of_words bytes, of.few)) split each_same enough,
)

-- shards that are the same as some of those of data, and that join to other data, have the numbers of the first
numbers_of_chosen : (words others : List ℕ) (min total : ℕ) (shards chosen : List Shard) → AreShardsOf words min total shards → All (IsSameAsOne shards) chosen → (j : JoinTo others chosen)
    → (j.min ≡ min) × (j.total ≡ total)
numbers_of_chosen words others min total shards [] of each_same j = absurd (omega (arith, joined_some others [] j))
numbers_of_chosen words others min total shards (s ∷ rest) of each_same j =
    let one = each_same 0 s (omega arith) in
    let there : IsShardOf words min total one.1 = rw (sym one.3) (of.each one.0 one.1 one.2) in
    let here : IsShardOf others j.min j.total s = joined_first others s rest j in
    (sym here.least ∙ sym one.4.least ∙ there.least, sym here.most ∙ sym one.4.most ∙ there.most)

-- a shard of data is the same as one of the shards of these data
pub one_of_data : (words : List ℕ) (min total : ℕ) (shards : List Shard) (s : Shard) → 1 ≤ min → min ≤ total → total < 2 ^ 32 → AreShardsOf words min total shards
    → IsShardOf words min total s → IsSameAsOne shards s
one_of_data words min total shards s some within short of here =
    let (lg, next, small) = domain_of total (omega (arith, some, within)) short in
    let i = s.index in
    let count : length shards ≡ total = sym (length-map shards (λ (t : Shard). t.index)) ∙ ap length of.indices ∙ length-range_with_len 0 total in
    let inside : i < length shards = omega (arith, here.index, count) in
    let t : Shard = get_or shards i s in
    let of_index : t.index ≡ i =
    sym (get_or-map (λ (t : Shard). t.index) shards i s 0 inside) ∙ ap (λ (xs : List ℕ). get_or xs i 0) of.indices ∙ get_or-range_with_len 0 total i 0 here.index ∙ (let e : 0 + i ≡ i = omega arith in e) in
    let there : IsShardOf words min total t = of.each i s inside in (
      i,
      t,
      inside,
      get_or_default shards i t s inside,
      record {
        index = of_index;
        least = there.least ∙ sym here.least;
        most = there.most ∙ sym here.most;
        cells = same_shards words min total lg t s next there here of_index;
      },
    )

-- a shard of the block that some shards give back is one of those that these were taken of
pub lost_come_back : LostShardsComeBack
lost_come_back bytes other min total shards chosen s of some within short split each_same join shard =
    let (least, most) = numbers_of_chosen (words_of_bytes bytes) (words_of_bytes other) min total shards chosen split each_same join.1 in
    let enough : min ≤ distinct_indices total chosen = subst (λ n. min ≤ distinct_indices n chosen) most (subst (λ m. m ≤ distinct_indices join.1.total chosen) least join.1.enough) in
    let own : JoinToBlock bytes chosen = chosen_give_block bytes min total shards chosen of some within short split each_same enough in
    let once : other ≡ bytes = one_block other bytes chosen join own in
    one_of_data (words_of_bytes bytes) min total shards s some within short split (subst (λ (xs : List ℕ). IsShardOf (words_of_bytes xs) min total s) once shard)
