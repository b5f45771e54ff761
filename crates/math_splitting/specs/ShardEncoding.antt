-- Shards as bytes: the index, `min` and `total`, and the list of the cells.
use Rattle.std.specs.Prelude.{◌≡◌, ℕ, ◌<◌, ◌^◌, List, ◌++◌, Result, Ok}
use Rattle.std.specs.Int.{to_be_bytes, w64}
use Rattle.std.specs.List.{AllZip}
use Rattle.math_numbers.specs.Goldilocks.{P}
use Rattle.math_codec.specs.declared.codec.range.LengthRange.{LengthRange}
use Rattle.math_codec.specs.Faults.{Fault, ◌>>=◌}
use Rattle.math_codec.specs.Lengths.{length_spelling, length_at}
use Rattle.math_codec.specs.Lists.{list_spelling, scan_list, AdmitsList, ListGrows}
use Rattle.math_fields.specs.declared.goldilocks.F.{F}
use Rattle.math_fields.specs.Elements.{number, same}
use Rattle.math_fields.specs.ElementEncoding.{scan_element}
use Rattle.math_splitting.specs.declared.shards.Shard.{Shard}

-- the lengths from 0 to most
abbrev pub at_most : ℕ → LengthRange
at_most most = record { low = 0; high = most }

-- a cell is spelled by its number as a word
abbrev pub cell_spelling : F → List ℕ
cell_spelling a = to_be_bytes w64 (number a)

-- a shard is spelled by its index, its `min`, its `total`, and the list of its cells
abbrev pub shard_spelling : Shard → List ℕ
shard_spelling s = length_spelling s.index ++ (length_spelling s.min ++ (length_spelling s.total ++ list_spelling cell_spelling s.cells.items))

-- both have the same index, the same `min`, the same `total`, and the same cells
pub record AreSameShards (s t : Shard) : Type 0 where
  pub index : s.index ≡ t.index
  pub least : s.min ≡ t.min
  pub most : s.total ≡ t.total
  pub cells : AllZip same s.cells.items t.cells.items

-- the shard has at most `most_cells` cells, each below P, and its three numbers fit 32 bits
pub record AdmitsShard (most_cells : ℕ) (s : Shard) : Type 0 where
  pub index_fits : s.index < 2 ^ 32
  pub min_fits : s.min < 2 ^ 32
  pub total_fits : s.total < 2 ^ 32
  pub cells : AdmitsList (at_most most_cells) (λ a. number a < P) s.cells.items

-- what a read of a shard leaves, or the first fault
unfoldable pub scan_shard : ℕ → List ℕ → Result (List ℕ) Fault
scan_shard most_cells bytes = do
  index ← length_at bytes
  min ← length_at index.1
  total ← length_at min.1
  scan_list (at_most most_cells) scan_element total.1

-- a read of a shard takes memory: its three numbers are read, and the list of its cells takes some
pub record ShardGrows (most_cells : ℕ) (bytes : List ℕ) : Type 0 where
  pub index : ℕ × List ℕ
  pub min : ℕ × List ℕ
  pub total : ℕ × List ℕ
  pub index_read : length_at bytes ≡ Ok index
  pub min_read : length_at index.1 ≡ Ok min
  pub total_read : length_at min.1 ≡ Ok total
  pub cells : ListGrows (at_most most_cells) scan_element (λ _. ⊥) total.1
