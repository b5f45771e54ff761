-- Shards with paths, and the block that those under a root give.
use Rattle.std.specs.Prelude.{◌≡◌, ◌≢◌, ◌⊎◌, ℕ, ◌<◌, ◌≤◌, ◌^◌, List, length, map, All, Contains, ⊤}
use Rattle.math_fields.specs.declared.goldilocks.F.{F}
use Rattle.hash_trees.specs.Binding.{CollidesAt, HasDigests, IsUnder, record_path}
use Rattle.systematic_shards.specs.declared.Error.{Error as RowsError}
use Rattle.systematic_shards.specs.declared.rows.Row.{Row}
use Rattle.systematic_shards.specs.declared.split.Code.{Code}
use Rattle.systematic_shards.specs.declared.split.Split.{Split}
use Rattle.systematic_shards.specs.Errors.{IsMemory as IsRowsMemory}
use Rattle.systematic_shards.specs.Refusals.{HaveEnough, IsDecodeDue}
use Rattle.systematic_shards.specs.Shards.{AreDataOf, BelongTo, IsCodewordOf}
use Rattle.systematic_shards.specs.Words.{word_of_bytes}
use Rattle.shard_roots.specs.declared.Error.{Error}
use Rattle.shard_roots.specs.declared.Error.TheVariants.{Memory, TooMany, Masks, Rows, Root}
use Rattle.shard_roots.specs.declared.shards.Shard.{Shard}
use Rattle.shard_roots.specs.Commitments.{IsCommitment, IsRootOfBlock}
use Rattle.shard_roots.specs.Records.{record_of, row_of, shard_records}

-- the shard is under the root by its path, as one of a block that is cut in this way
abbrev pub IsShardUnder : (List ℕ → List ℕ) → Split → List ℕ → Shard → Type 0
IsShardUnder h split top shard = IsUnder h split.total shard.index (record_of split shard.mask shard.index shard.cells.now) shard.path.now top

-- the row of a shard
abbrev pub row_of_shard : Shard → Row ℕ
row_of_shard shard = record { index = shard.index; cells = shard.cells }

-- the rows of shards
abbrev pub rows_of : List Shard → List (Row ℕ)
rows_of shards = map row_of_shard shards

-- of the shards exactly these are under the root
pub record AreThoseUnder (h : List ℕ → List ℕ) (split : Split) (top : List ℕ) (shards kept : List Shard) : Type 0 where
  pub under : All (IsShardUnder h split top) kept
  pub there : All (Contains shards) kept
  pub all : All (λ shard. IsShardUnder h split top shard → Contains kept shard) shards

-- each of the shards has this mask
abbrev pub HaveMask : ℕ → List Shard → Type 0
HaveMask mask shards = All (λ shard. shard.mask ≡ mask) shards

-- two of the shards have different masks
abbrev pub HaveOtherMasks : List Shard → Type 0
HaveOtherMasks shards = (one other : Shard) × Contains shards one × Contains shards other × (one.mask ≢ other.mask)

-- the error says that memory ran out
abbrev pub IsMemory : Error → Type 0
IsMemory (Memory e) = ⊤
IsMemory TooMany = ⊥
IsMemory Masks = ⊥
IsMemory (Rows e) = ⊥
IsMemory Root = ⊥

-- the error says that memory ran out, or names another one that is due to rows that are decoded
abbrev pub IsRefusedDecode : Split → ℕ → List (Row ℕ) → Error → Type 0
IsRefusedDecode split mask rows (Memory e) = ⊤
IsRefusedDecode split mask rows TooMany = ⊥
IsRefusedDecode split mask rows Masks = ⊥
IsRefusedDecode split mask rows (Rows e) = (¬ (IsRowsMemory e)) × IsDecodeDue 1 word_of_bytes split mask rows e
IsRefusedDecode split mask rows Root = ⊥

-- the rows are enough and rows of a codeword, and the block is its data
abbrev pub AreDecoded : Code → List (Row ℕ) → List ℕ → Type 0
AreDecoded code rows block =
    ((a : ℕ → ℕ → F) × IsCodewordOf code.split a × BelongTo word_of_bytes code.split code.mask rows a × AreDataOf code.split code.mask a (word_of_bytes block))
    × HaveEnough code.split.min rows × (code.mask < 2 ^ 32)

-- the shards that are under the root have one mask, belong to one codeword, and give this block
pub record AreJoined (h : List ℕ → List ℕ) (split : Split) (top : List ℕ) (shards : List Shard) (block : List ℕ) : Type 0 where
  pub kept : List Shard
  pub those : AreThoseUnder h split top shards kept
  pub mask : ℕ
  pub short : mask < 2 ^ 32
  pub one : HaveMask mask kept
  pub cells : ℕ → ℕ → F
  pub of_code : IsCodewordOf split cells
  pub belong : BelongTo word_of_bytes split mask (rows_of kept) cells
  pub enough : HaveEnough split.min (rows_of kept)
  pub sizes : length block ≡ split.size
  pub give : AreDataOf split mask cells (word_of_bytes block)

-- two of the shards that are under the root have different masks
abbrev pub HaveTwoMasks : (List ℕ → List ℕ) → Split → List ℕ → List Shard → Type 0
HaveTwoMasks h split top shards = (kept : List Shard) × AreThoseUnder h split top shards kept × HaveOtherMasks kept

-- what `decode` refuses, memory aside, is due to the rows of the shards under the root, which have one mask
pub record IsRowsDue (h : List ℕ → List ℕ) (split : Split) (top : List ℕ) (shards : List Shard) (e : RowsError) : Type 0 where
  pub kept : List Shard
  pub those : AreThoseUnder h split top shards kept
  pub mask : ℕ
  pub one : HaveMask mask kept
  pub other : ¬ (IsRowsMemory e)
  pub due : IsDecodeDue 1 word_of_bytes split mask (rows_of kept) e

-- which refusal is due to shards that are joined under a root
abbrev pub IsJoinDue : (List ℕ → List ℕ) → Split → List ℕ → List Shard → Error → Type 0
IsJoinDue h split top shards (Memory e) = ⊤
IsJoinDue h split top shards TooMany = 2 ^ 16 < split.total
IsJoinDue h split top shards Masks = (split.total ≤ 2 ^ 16) × HaveTwoMasks h split top shards
IsJoinDue h split top shards (Rows e) = (split.total ≤ 2 ^ 16) × IsRowsDue h split top shards e
IsJoinDue h split top shards Root = ⊥

-- the shards under the root give a block of bytes whose root is another one
abbrev pub GiveAnotherRoot : (List ℕ → List ℕ) → Split → List ℕ → List Shard → Type 0
GiveAnotherRoot h split top shards =
    (block other : List ℕ) × All (λ b. b < 256) block × AreJoined h split top shards block × IsRootOfBlock h split block other × (other ≢ top)

-- which refusal is due to shards that are joined under a root, and whose block is committed to again
abbrev pub IsStrictDue : (List ℕ → List ℕ) → Split → List ℕ → List Shard → Error → Type 0
IsStrictDue h split top shards (Memory e) = ⊤
IsStrictDue h split top shards TooMany = IsJoinDue h split top shards TooMany
IsStrictDue h split top shards Masks = IsJoinDue h split top shards Masks
IsStrictDue h split top shards (Rows e) = IsJoinDue h split top shards (Rows e)
IsStrictDue h split top shards Root = (split.total ≤ 2 ^ 16) × GiveAnotherRoot h split top shards

-- which refusal is due to a block that is committed to
abbrev pub IsCommitDue : Split → Error → Type 0
IsCommitDue split (Memory e) = ⊤
IsCommitDue split TooMany = 2 ^ 16 < split.total
IsCommitDue split Masks = ⊥
IsCommitDue split (Rows e) = ⊥
IsCommitDue split Root = ⊥

-- for one of the shards two different messages that were hashed have the same digest: to see that it is under the root, and that the record of its index is
abbrev pub SomeShardCollides : (List ℕ → List ℕ) → Split → List (List ℕ) → List Shard → Type 0
SomeShardCollides h split records shards =
    (shard : Shard) × Contains shards shard × CollidesAt h records shard.index (record_of split shard.mask shard.index shard.cells.now) shard.path.now

-- shards that are joined under the root of a block give this block, or two different messages that were hashed have the same digest
abbrev pub OnlyBlockIsJoined : Type 0
OnlyBlockIsJoined =
    (h : List ℕ → List ℕ) (split : Split) (mask : ℕ) (block parity top found : List ℕ) (shards : List Shard) → HasDigests h
    → All (λ b. b < 256) block → All (λ b. b < 256) found → IsCommitment h split mask block parity top → AreJoined h split top shards found
    → (found ≡ block) ⊎ SomeShardCollides h split (shard_records split mask block parity) shards

-- a shard as it is given out for a block: the row of its index, with the mask of the block and its path
pub record IsOwnShard (h : List ℕ → List ℕ) (split : Split) (mask : ℕ) (block parity : List ℕ) (shard : Shard) : Type 0 where
  pub below : shard.index < split.total
  pub same : shard.mask ≡ mask
  pub row : shard.cells.now ≡ row_of split block parity shard.index
  pub path : shard.path.now ≡ record_path h (shard_records split mask block parity) shard.index

-- shards that are handed out for a block are under its root, and what is joined of them is this block
abbrev pub OwnShardsGiveTheBlock : Type 0
OwnShardsGiveTheBlock =
    (h : List ℕ → List ℕ) (split : Split) (mask : ℕ) (block parity top : List ℕ) (shards : List Shard) → HasDigests h → All (λ b. b < 256) block
    → IsCommitment h split mask block parity top → All (IsOwnShard h split mask block parity) shards
    → All (IsShardUnder h split top) shards × ((found : List ℕ) → All (λ b. b < 256) found → AreJoined h split top shards found → found ≡ block)

-- some of the shards are as they are handed out for a block, and these have `min` distinct indices or more
pub record HaveOwnShards (h : List ℕ → List ℕ) (split : Split) (mask : ℕ) (block parity : List ℕ) (shards : List Shard) : Type 0 where
  pub own : List Shard
  pub there : All (Contains shards) own
  pub are : All (IsOwnShard h split mask block parity) own
  pub enough : HaveEnough split.min (rows_of own)

-- where enough of the shards are a block's own, the only error that is due under its root is that memory ran out, whatever the other shards are, or two different messages that were hashed have the same digest
abbrev pub OwnShardsAreJoined : Type 0
OwnShardsAreJoined =
    (h : List ℕ → List ℕ) (split : Split) (mask : ℕ) (block parity top : List ℕ) (shards : List Shard) (e : Error) → HasDigests h → split.total ≤ 2 ^ 16
    → All (λ b. b < 256) block → All (λ shard. shard.mask < 2 ^ 32) shards
    → IsCommitment h split mask block parity top → HaveOwnShards h split mask block parity shards
    → IsJoinDue h split top shards e ⊎ IsStrictDue h split top shards e
    → IsMemory e ⊎ SomeShardCollides h split (shard_records split mask block parity) shards
