-- The records of the shards of a block. h is the hash function.
use Rattle.std.specs.Prelude.{ℕ, ◌-◌, ◌*◌, List, ◌++◌, cond, drop, map, nat_lt, replicate, take}
use Rattle.std.specs.Int.{to_be_bytes, w64}
use Rattle.std.specs.List.{range_with_len}
use Rattle.hash_trees.specs.Binding.{records_root}
use Rattle.systematic_shards.specs.declared.split.Split.{Split}

-- the record of the shard of this index: the size of the block, the index, `min`, `total` and the mask, a word each, the highest byte first, and then the bytes of the row
abbrev pub record_of : Split → ℕ → ℕ → List ℕ → List ℕ
record_of split mask index row =
    to_be_bytes w64 split.size ++ (to_be_bytes w64 index ++ (to_be_bytes w64 split.min ++ (to_be_bytes w64 split.total ++ (to_be_bytes w64 mask ++ row))))

-- row number i of these bytes, of n bytes: zeros stand for bytes past the end
abbrev pub row_at : ℕ → List ℕ → ℕ → List ℕ
row_at n bytes i = take n (drop (i * n) bytes ++ replicate n 0)

-- the bytes of the row of this index: of the block, or of the parity rows
abbrev pub row_of : Split → List ℕ → List ℕ → ℕ → List ℕ
row_of split block parity index = cond (nat_lt index split.min) (row_at (8 * split.width) block index) (row_at (8 * split.width) parity (index - split.min))

-- the records of all shards of a block, by rising index
abbrev pub shard_records : Split → ℕ → List ℕ → List ℕ → List (List ℕ)
shard_records split mask block parity = map (λ index. record_of split mask index (row_of split block parity index)) (range_with_len 0 split.total)

-- the root of the shards of a block
abbrev pub shards_root : (List ℕ → List ℕ) → Split → ℕ → List ℕ → List ℕ → List ℕ
shards_root h split mask block parity = records_root h (shard_records split mask block parity)
