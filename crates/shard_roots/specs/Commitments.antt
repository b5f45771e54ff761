-- What the root of a block is, and what it binds.
use Rattle.std.specs.Prelude.{◌≡◌, ◌⊎◌, ℕ, ◌-◌, ◌*◌, ◌<◌, ◌^◌, List, length, All}
use Rattle.hash_trees.specs.Binding.{Collide, HasDigests, in_records}
use Rattle.systematic_shards.specs.declared.split.Split.{Split}
use Rattle.systematic_shards.specs.Masks.{IsLeastMask}
use Rattle.systematic_shards.specs.Shards.{AreShards}
use Rattle.systematic_shards.specs.Words.{word_of_bytes}
use Rattle.shard_roots.specs.Records.{shard_records, shards_root}

-- the mask and the parity rows are the mask and the parity rows of the block
pub record AreParityOf (split : Split) (mask : ℕ) (block parity : List ℕ) : Type 0 where
  pub size : length block ≡ split.size
  pub room : length parity ≡ (split.total - split.min) * (8 * split.width)
  pub bytes : All (λ b. b < 256) parity
  pub short : mask < 2 ^ 32
  pub least : IsLeastMask (split.min * split.width) (word_of_bytes block) mask
  pub shards : AreShards split mask (word_of_bytes block) (word_of_bytes parity)

-- this is the root of the block, whose mask and parity rows these are
pub record IsCommitment (h : List ℕ → List ℕ) (split : Split) (mask : ℕ) (block parity top : List ℕ) : Type 0 where
  pub made : AreParityOf split mask block parity
  pub root : top ≡ shards_root h split mask block parity

-- this is the root of the block
abbrev pub IsRootOfBlock : (List ℕ → List ℕ) → Split → List ℕ → List ℕ → Type 0
IsRootOfBlock h split block top = (mask : ℕ) × (parity : List ℕ) × IsCommitment h split mask block parity top

-- a block that is cut in one way has one root
abbrev pub HaveOneRoot : Type 0
HaveOneRoot =
    (h : List ℕ → List ℕ) (split : Split) (block top other : List ℕ) → IsRootOfBlock h split block top → IsRootOfBlock h split block other → top ≡ other

-- blocks in equally many shards that have one root are the same, cut in the same way, or two different messages that were hashed for it have the same digest
abbrev pub BlocksAreBound : Type 0
BlocksAreBound =
    (h : List ℕ → List ℕ) (split other : Split) (mask over : ℕ) (block another parity further top : List ℕ) → HasDigests h → split.total ≡ other.total
    → IsCommitment h split mask block parity top → IsCommitment h other over another further top
    → ((block ≡ another) × (split.min ≡ other.min)) ⊎ Collide h (in_records h (shard_records split mask block parity)) (in_records h (shard_records other over another further))
