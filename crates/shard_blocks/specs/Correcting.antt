-- Shards of which some are wrong, and the block of bytes that most of them have.
use Rattle.std.specs.Prelude.{◌≡◌, ℕ, ◌+◌, ◌<◌, ◌≤◌, List, [], ◌∷◌, length, All, Result}
use Rattle.std.specs.List.{remove}
use Rattle.math_splitting.specs.declared.shards.Shard.{Shard}
use Rattle.math_shards.specs.declared.shards.Error.{Error}
use Rattle.math_shards.specs.Correcting.{AreCorrected, CorrectTo, settled_indices}
use Rattle.math_shards.specs.Joining.{IsDueFor, IsSound, RefusesWhereDue}
use Rattle.math_splitting.specs.Shards.{distinct_indices}
use Rattle.shard_blocks.specs.Blocks.{JoinToBlock}
use Rattle.shard_blocks.specs.BlockWords.{AreBytes, words_of_bytes}

-- the bytes are the block of the shards, of which some are wrong
abbrev pub CorrectToBlock : List ℕ → List Shard → Type 0
CorrectToBlock bytes shards = AreBytes bytes × CorrectTo (words_of_bytes bytes) shards

-- the bytes are the block of the shards, of which some are wrong, and the positions are the positions of the shards that are not shards of
-- the block
abbrev pub AreCorrectedBlock : List ℕ → List ℕ → List Shard → Type 0
AreCorrectedBlock bytes positions shards = AreBytes bytes × AreCorrected (words_of_bytes bytes) positions shards

-- what is wrong with the shards of a block that is corrected, for each error but that memory ran out
abbrev pub IsBlockDueCorrecting : List Shard → Error → Type 0
IsBlockDueCorrecting = IsDueFor (λ _. ⊥) settled_indices CorrectToBlock

-- shards that are corrected to a block are refused with the error only where it is due; and where it is due, they are, or memory ran out
abbrev pub RefusesBlockCorrecting : {X : Type 0} → Result X Error → List Shard → Error → Type 0
RefusesBlockCorrecting result shards = RefusesWhereDue result (IsBlockDueCorrecting shards)

-- shards have one block at most, however some of them are wrong
abbrev pub HaveOneCorrectedBlock : Type 0
HaveOneCorrectedBlock = (bytes others : List ℕ) (shards : List Shard) → CorrectToBlock bytes shards → CorrectToBlock others shards → bytes ≡ others

-- the block that shards give back is the one that they are corrected to
abbrev pub JoinedBlocksAreCorrect : Type 0
JoinedBlocksAreCorrect = (bytes : List ℕ) (shards : List Shard) → JoinToBlock bytes shards → CorrectToBlock bytes shards

-- the shards without the one at position i give this block back
abbrev pub JoinWithout : List ℕ → List Shard → ℕ → Type 0
JoinWithout bytes shards i = (i < length shards) × JoinToBlock bytes (remove shards i)

-- the shards' numbers agree, and by them at least two more distinct indices are there than give a block back
abbrev pub HaveTwoToSpare : List Shard → Type 0
HaveTwoToSpare [] = ⊥
HaveTwoToSpare (first ∷ rest) = All (IsSound first) (first ∷ rest) × (first.min + 2 ≤ distinct_indices first.total (first ∷ rest))

-- where two are to spare, and the shards without one of them give a block back, it is the one that all of them are corrected to
abbrev pub OneWrongIsCorrected : Type 0
OneWrongIsCorrected = (bytes : List ℕ) (shards : List Shard) (i : ℕ) → HaveTwoToSpare shards → JoinWithout bytes shards i → CorrectToBlock bytes shards
