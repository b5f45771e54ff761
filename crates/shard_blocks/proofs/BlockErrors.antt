-- What is wrong with the shards of a block, as with those of its words: one error at most, and none but want of memory where they give a block back.
use Rattle.std.proofs.Common.{◌≡◌, ℕ, ◌≤◌, ◌⊎◌, inl, inr, List, [], ◌∷◌}
use Rattle.std.specs.List.{All}
use Rattle.math_shards.specs.declared.shards.Error.{Error}
use Rattle.math_shards.specs.declared.shards.Error.TheVariants.{Memory, TooFew, Mismatch, Index, Conflict, Inconsistent}
use Rattle.math_splitting.specs.declared.shards.Shard.{Shard}
use Rattle.math_splitting.specs.Shards.{JoinTo, distinct_indices}
use Rattle.math_shards.specs.Joining.{HaveConflict, IsDueFor, IsMemory, IsSound}
use Rattle.math_shards.specs.WordShards.{AreRefused}
use Rattle.shard_blocks.specs.Blocks.{AreRowsRefused}
use Rattle.shard_blocks.specs.BlockWords.{AreBytes, IsBlockOf, words_of_bytes}
use Rattle.shard_blocks.proofs.UnpackedBytes.{words_once}

-- what a conflict is, how many indices below a number count, and which words are data of shards
module _ (conflict : List Shard → Type 0) (indices : ℕ → List Shard → ℕ) (data_of : List ℕ → List Shard → Type 0) where
  -- the bytes are those of a block whose words are data of the shards
  abbrev pub BlockOf : List ℕ → List Shard → Type 0
  BlockOf bytes shards = AreBytes bytes × data_of (words_of_bytes bytes) shards

  -- an error that is due for words is due for the block too
  pub due_for_block : (shards : List Shard) (e : Error) → IsDueFor conflict indices data_of shards e → IsDueFor conflict indices BlockOf shards e
  due_for_block [] e h = h
  due_for_block (first ∷ rest) (Memory a) h = tt
  due_for_block (first ∷ rest) TooFew h = h
  due_for_block (first ∷ rest) Mismatch h = h
  due_for_block (first ∷ rest) Index h = h
  due_for_block (first ∷ rest) Conflict h = h
  due_for_block (first ∷ rest) Inconsistent h = (h.0, h.1, λ bytes j. h.2 (words_of_bytes bytes) j.1)

  -- where data are those of shards that are sound and not in conflict, and of which enough indices count, and there is one list of them at most
  module _ (of_some : (words : List ℕ) → ¬ (data_of words []))
      (beside : (words : List ℕ) (first : Shard) (rest : List Shard) → data_of words (first ∷ rest)
      → (All (IsSound first) (first ∷ rest) × ¬ (conflict (first ∷ rest))) × (first.min ≤ indices first.total (first ∷ rest)))
      (once : (words others : List ℕ) (shards : List Shard) → data_of words shards → data_of others shards → words ≡ others) where
    -- so it is for blocks
    pub block_of_some : (bytes : List ℕ) → ¬ (BlockOf bytes [])
    block_of_some bytes j = of_some (words_of_bytes bytes) j.1

    pub block_beside : (bytes : List ℕ) (first : Shard) (rest : List Shard) → BlockOf bytes (first ∷ rest)
        → (All (IsSound first) (first ∷ rest) × ¬ (conflict (first ∷ rest))) × (first.min ≤ indices first.total (first ∷ rest))
    block_beside bytes first rest j = beside (words_of_bytes bytes) first rest j.1

    pub block_once : (bytes others : List ℕ) (shards : List Shard) → BlockOf bytes shards → BlockOf others shards → bytes ≡ others
    block_once bytes others shards j k = words_once bytes others j.0 k.0 (once (words_of_bytes bytes) (words_of_bytes others) shards j.1 k.1)

    -- where the data are those of no block, the shards are inconsistent
    pub inconsistent_of_words : (words : List ℕ) (shards : List Shard) → data_of words shards → ((block : List ℕ) → ¬ (IsBlockOf words block))
        → IsDueFor conflict indices BlockOf shards Inconsistent
    inconsistent_of_words words [] j none = absurd (of_some words j)
    inconsistent_of_words words (first ∷ rest) j none =
        let b = beside words first rest j in
        (b.0, b.1, λ block k. none block (k.0, once words (words_of_bytes block) (first ∷ rest) j k.1))

-- what is wrong with the shards that rows are is wrong with them as those of a block
pub rows_refused : (min total : ℕ) (indices cells : List ℕ) (e : Error) → IsMemory e ⊎ AreRefused e min total indices cells → IsMemory e ⊎ AreRowsRefused e min total indices cells
rows_refused min total indices cells e (inl memory) = inl memory
rows_refused min total indices cells e (inr (shards, are, due)) = inr (shards, are, due_for_block HaveConflict distinct_indices JoinTo shards e due)
