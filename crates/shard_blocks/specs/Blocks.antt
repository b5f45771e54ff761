-- Shards that give a block of bytes back, and what is wrong with those that give none.
use Rattle.std.specs.Prelude.{◌≡◌, ℕ, ◌<◌, ◌≤◌, ◌^◌, List, All, Result}
use Rattle.std.specs.Int.{to_be_bytes, w64}
use Rattle.std.specs.List.{flat_map}
use Rattle.math_splitting.specs.declared.shards.Shard.{Shard}
use Rattle.math_shards.specs.declared.shards.Error.{Error}
use Rattle.math_splitting.specs.Shards.{AreShardsOf, IsSameAsOne, IsShardOf, JoinTo, distinct_indices}
use Rattle.math_splitting.specs.ShardRows.{AreRowsOfShards}
use Rattle.math_shards.specs.WordShards.{AreWordShards}
use Rattle.math_shards.specs.Joining.{HaveConflict, IsDueFor, RefusesWhereDue}
use Rattle.shard_blocks.specs.BlockWords.{AreBytes, words_of_bytes}

-- the bytes are, row by row, the shards of the block: each cell is eight of them, the highest first
abbrev pub AreByteRows : List ℕ → ℕ → ℕ → List ℕ → Type 0
AreByteRows block min total bytes = (cells : List ℕ) × AreRowsOfShards (words_of_bytes block) min total cells × (bytes ≡ flat_map (to_be_bytes w64) cells)

-- the shards give this block back
abbrev pub JoinToBlock : List ℕ → List Shard → Type 0
JoinToBlock bytes shards = AreBytes bytes × JoinTo (words_of_bytes bytes) shards

-- what is wrong with the shards of a block, for each error but that memory ran out
abbrev pub IsBlockDue : List Shard → Error → Type 0
IsBlockDue = IsDueFor HaveConflict distinct_indices JoinToBlock

-- shards of a block are refused with the error only where it is due; and where it is due, they are, or memory ran out
abbrev pub RefusesBlockExactly : {X : Type 0} → Result X Error → List Shard → Error → Type 0
RefusesBlockExactly result shards = RefusesWhereDue result (IsBlockDue shards)

-- the shards that the words are give the block back
abbrev pub DoRowsJoinTo : List ℕ → ℕ → ℕ → List ℕ → List ℕ → Type 0
DoRowsJoinTo block min total indices cells = (shards : List Shard) × AreWordShards min total indices cells shards × JoinToBlock block shards

-- this is wrong with the shards that the words are
abbrev pub AreRowsRefused : Error → ℕ → ℕ → List ℕ → List ℕ → Type 0
AreRowsRefused e min total indices cells = (shards : List Shard) × AreWordShards min total indices cells shards × IsBlockDue shards e

-- shards give one block back at most
abbrev pub HaveOneBlock : Type 0
HaveOneBlock = (bytes others : List ℕ) (shards : List Shard) → JoinToBlock bytes shards → JoinToBlock others shards → bytes ≡ others

-- shards each of which is the same as one of the shards of a block, in any order and some of them twice: where at least `min` have distinct indices, they give the block back
abbrev pub ChosenShardsGiveBlock : Type 0
ChosenShardsGiveBlock =
    (bytes : List ℕ) (min total : ℕ) (shards chosen : List Shard) → AreBytes bytes → 1 ≤ min → min ≤ total → total < 2 ^ 32
    → AreShardsOf (words_of_bytes bytes) min total shards → All (IsSameAsOne shards) chosen → min ≤ distinct_indices total chosen → JoinToBlock bytes chosen

-- lost shards come back: a shard of the block that some shards give back is the same as the one of its index among the shards that these
-- were taken from
abbrev pub LostShardsComeBack : Type 0
LostShardsComeBack =
    (bytes other : List ℕ) (min total : ℕ) (shards chosen : List Shard) (s : Shard) → AreBytes bytes → 1 ≤ min → min ≤ total → total < 2 ^ 32
    → AreShardsOf (words_of_bytes bytes) min total shards → All (IsSameAsOne shards) chosen → JoinToBlock other chosen → IsShardOf (words_of_bytes other) min total s
    → IsSameAsOne shards s
