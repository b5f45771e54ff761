-- Rows of blocks, and the roots of these.
use Rattle.std.specs.Prelude.{◌≡◌, ℕ, ◌-◌, ◌*◌, ◌<◌, ◌≤◌, List, [], drop, slice_index_or, take}
use Rattle.hash_trees.specs.Trees.{leaf_message}
use Rattle.sha2.specs.Sha512.{sha512_256}
use Rattle.shard_format.specs.declared.header.Header.{Header}
use Rattle.shard_roots.specs.declared.shards.Shard.{Shard}
use Rattle.shard_roots.specs.Joining.{IsShardUnder}
use Rattle.shard_roots.specs.Records.{record_of}
use Rattle.systematic_shards.specs.declared.split.Split.{Split}

-- the leaf of each parity row is that of its record; the parity rows lie one behind the other
abbrev pub AreParityLeaves : Split → ℕ → List ℕ → List (List ℕ) → Type 0
AreParityLeaves split mask parity tree =
    (index : ℕ) → split.min ≤ index → index < split.total
    → slice_index_or tree index [] ≡ sha512_256 (leaf_message (record_of split mask index (take (8 * split.width) (drop ((index - split.min) * (8 * split.width)) parity))))

-- the row is under the root, as one of a block of so many bytes that is cut as the header says
abbrev pub IsRowUnder : Header → ℕ → List ℕ → Shard → Type 0
IsRowUnder header bytes top row = (split : Split) × (split.min ≡ header.min) × (split.total ≡ header.total) × (split.size ≡ bytes) × IsShardUnder sha512_256 split top row
