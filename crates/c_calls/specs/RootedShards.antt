-- Roots of blocks, and shards with their masks and paths in the caller's memory.
use Rattle.std.specs.Prelude.{◌≡◌, ◌≢◌, ◌⊎◌, ◌↔◌, ℕ, ◌-◌, ◌*◌, ◌<◌, ◌≤◌, ◌^◌, List, ◌++◌, length, replicate, take, drop, slice_index, slice_index_or, ⊤}
use Rattle.sha2.specs.Sha512.{sha512_256}
use Rattle.hash_trees.specs.Binding.{record_path}
use Rattle.hash_trees.specs.Steps.{path_steps}
use Rattle.systematic_shards.specs.declared.split.Split.{Split}
use Rattle.systematic_shards.specs.Correcting.{ArePositionsWithout}
use Rattle.shard_roots.specs.declared.Error.{Error}
use Rattle.shard_roots.specs.declared.Error.TheVariants.{Memory, TooMany, Masks, Rows, Root}
use Rattle.shard_roots.specs.declared.shards.Shard.{Shard}
use Rattle.shard_roots.specs.Commitments.{IsCommitment}
use Rattle.shard_roots.specs.Joining.{AreJoined, IsCommitDue, IsShardUnder, IsStrictDue}
use Rattle.shard_roots.specs.Records.{shard_records}
use Rattle.c_calls.specs.declared.roots.in_hand.ShardsWithPaths.{ShardsWithPaths}
use Rattle.c_calls.specs.Statuses.{done, mismatch, out_of_memory, status_of_roots, wrong_size}
use Rattle.c_calls.specs.SystematicRows.{HaveRowsFor, IsSplitOf}
use Rattle.c_calls.specs.WordEncodings.{StandInFront}

-- a digest of zeros, which stands for none
abbrev pub no_digest : List ℕ
no_digest = replicate 32 0

-- a path and zeros behind it, so many digests
abbrev pub place_of : ℕ → List (List ℕ) → List (List ℕ)
place_of room others = others ++ replicate (room - length others) no_digest

-- the digests are n places, of so many digests each, which hold these paths
pub record ArePlaces (room n : ℕ) (others : ℕ → List (List ℕ)) (digests : List (List ℕ)) : Type 0 where
  pub count : length digests ≡ n * room
  pub each : (i : ℕ) → i < n → take room (drop (i * room) digests) ≡ place_of room (others i)

-- the mask, the parity rows and the root are those of the block, and each shard has its path in its place
pub record AreCommitted (split : Split) (block : List ℕ) (mask : ℕ) (parity top : List ℕ) (paths : List (List ℕ)) : Type 0 where
  pub few : split.total ≤ 2 ^ 16
  pub commitment : IsCommitment sha512_256 split mask block parity top
  pub places : ArePlaces (path_steps split.total 0) split.total (λ index. record_path sha512_256 (shard_records split mask block parity) index) paths

-- the number is 1 where P holds, and 0 where it does not
pub record IsAnswer (P : Type 0) (n : ℕ) : Type 0 where
  pub bit : n ≤ 1
  pub says : n ≡ 1 ↔ P

-- shard t of the first n has index number t, mask number t and the bytes of row t, and place t begins with its path
pub record AreShardsIn (row total : ℕ) (indices masks bytes : List ℕ) (paths : List (List ℕ)) (n : ℕ) (shards : List Shard) : Type 0 where
  pub count : length shards ≡ n
  pub index : (t : ℕ) (d : Shard) → t < n → (slice_index_or shards t d).index ≡ slice_index indices t
  pub mask : (t : ℕ) (d : Shard) → t < n → (slice_index_or shards t d).mask ≡ slice_index masks t
  pub cells : (t : ℕ) (d : Shard) → t < n → (slice_index_or shards t d).cells.now ≡ take row (drop (t * row) bytes)
  pub path : (t : ℕ) (d : Shard) → t < n → slice_index indices t < total
      → (slice_index_or shards t d).path.now ≡ take (path_steps total (slice_index indices t)) (drop (t * path_steps total 0) paths)

-- what a call was given: the split of its numbers, and the shards with their paths
pub record GivenShards (size least total : ℕ) (indices masks bytes : List ℕ) (paths : List (List ℕ)) : Type 0 where
  pub split : Split
  pub cut : IsSplitOf size least total split
  pub shards : List Shard
  pub lie : AreShardsIn (8 * split.width) split.total indices masks bytes paths (length indices) shards

-- this holds of the split and the shards that a call was given
abbrev pub HoldsOfShards : ℕ → ℕ → ℕ → List ℕ → List ℕ → List ℕ → List (List ℕ) → (Split → List Shard → Type 0) → Type 0
HoldsOfShards size least total indices masks bytes paths P = (it : GivenShards size least total indices masks bytes paths) × P it.split it.shards

-- for k shards there are as many masks, the bytes of k rows, and k places
abbrev pub HaveShardsFor : ℕ → ℕ → ℕ → ℕ → ℕ → ℕ → ℕ → Type 0
HaveShardsFor size least total k masks bytes digests = (masks ≡ k) × HaveRowsFor size least total k bytes × (digests ≡ k * path_steps total 0)

-- the shards in hand are those of these numbers, indices, masks, bytes and paths
pub record AreGiven (size least total : ℕ) (indices masks bytes : List ℕ) (paths : List (List ℕ)) (held : ShardsWithPaths) : Type 0 where
  pub split : IsSplitOf size least total held.split
  pub indices_are : held.indices.now ≡ indices
  pub masks_are : held.masks.now ≡ masks
  pub bytes_are : held.bytes.now ≡ bytes
  pub paths_are : held.paths.now ≡ paths

-- these are the shards in hand
abbrev pub AreShardsOf : ShardsWithPaths → List Shard → Type 0
AreShardsOf held shards =
    AreShardsIn (8 * held.split.width) held.split.total held.indices.now held.masks.now held.bytes.now held.paths.now (length held.indices.now) shards

-- the block is that of the shards under the root, and the positions are those of the others
pub record AreJoinedUnder (split : Split) (top : List ℕ) (shards : List Shard) (block positions : List ℕ) : Type 0 where
  pub few : split.total ≤ 2 ^ 16
  pub joined : AreJoined sha512_256 split top shards block
  pub left_out : ArePositionsWithout (IsShardUnder sha512_256 split top) shards positions

-- the error says that memory ran out
abbrev pub IsMemory : Error → Type 0
IsMemory (Memory e) = ⊤
IsMemory TooMany = ⊥
IsMemory Masks = ⊥
IsMemory (Rows e) = ⊥
IsMemory Root = ⊥

-- the error says that memory ran out, or is due to the shards in hand that are joined and committed to again
abbrev pub IsMemoryOrStrictDue : List ℕ → ShardsWithPaths → Error → Type 0
IsMemoryOrStrictDue top held e = IsMemory e ⊎ ((shards : List Shard) × AreShardsOf held shards × IsStrictDue sha512_256 held.split top shards e)

-- the error is that of a block which can't be committed to, of so many bytes, with this `min` and `total`
abbrev pub IsCommitDueTo : ℕ → ℕ → ℕ → Error → Type 0
IsCommitDueTo size least total e = (split : Split) × IsSplitOf size least total split × IsCommitDue split e

-- the error tells neither of numbers nor of sizes
abbrev pub TellsNoSizes : Error → Type 0
TellsNoSizes e = (status_of_roots e ≢ mismatch) × (status_of_roots e ≢ wrong_size)

-- the block is that of the shards in hand under the root, and the positions of the others, so many, stand in front
abbrev pub WritesBlock : List ℕ → ShardsWithPaths → List ℕ → List ℕ → List ℕ → ℕ → Type 0
WritesBlock top held block old new many =
    (shards : List Shard) × AreShardsOf held shards
    × ((positions : List ℕ) × AreJoinedUnder held.split top shards block positions × (many ≡ length positions) × StandInFront positions old new)

-- the status is a refusal, and tells neither of memory nor of numbers and sizes
pub record TellsOfShards (status : ℕ) : Type 0 where
  pub refused : status ≢ done
  pub not_of_memory : status ≢ out_of_memory
  pub not_of_numbers : status ≢ mismatch
  pub not_of_sizes : status ≢ wrong_size

-- the status is that of a refusal that is due to these shards
abbrev pub IsStatusUnder : List ℕ → ℕ → Split → List Shard → Type 0
IsStatusUnder top status split shards = (e : Error) × (status ≡ status_of_roots e) × IsStrictDue sha512_256 split top shards e

-- a status that tells of shards is that of a refusal that is due to those that a call was given
abbrev pub IsJoiningDue : ℕ → ℕ → ℕ → List ℕ → List ℕ → List ℕ → List (List ℕ) → List ℕ → ℕ → Type 0
IsJoiningDue size least total indices masks bytes paths top status =
    TellsOfShards status → HoldsOfShards size least total indices masks bytes paths (IsStatusUnder top status)
