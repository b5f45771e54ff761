-- Shards of data as words, a shard a row: how they are written column by column.
use Rattle.std.specs.Prelude.{◌≡◌, ℕ, ◌+◌, ◌*◌, ◌<◌, ◌^◌, List, length, map, take, drop, slice_index, slice_index_or}
use Rattle.std.specs.List.{flat_map, range_with_len}
use Rattle.math_fields.specs.declared.goldilocks.F.{F}
use Rattle.math_fields.specs.Elements.{number, residue}
use Rattle.math_transforms.specs.Matrices.{MatrixOf, column_of}
use Rattle.math_splitting.specs.declared.shards.Shard.{Shard}
use Rattle.math_splitting.specs.declared.shards.indices.WantedIndices.{WantedIndices}
use Rattle.math_splitting.specs.declared.shards.indices.WantedIndices.TheVariants as wanted
use Rattle.math_splitting.specs.declared.shards.layouts.Layout.{Layout}
use Rattle.math_splitting.specs.declared.shards.layouts.Strip.{Strip}
use Rattle.math_splitting.specs.declared.shards.sources.Source.{Source}
use Rattle.math_splitting.specs.DataWords.{words_in}
use Rattle.math_splitting.specs.Shards.{AreShardsAt, rows_for, value_at_index}
use Rattle.math_splitting.specs.Strips.{place_of}

-- the words are the numbers of the cells of the shards of these indices for the data, shard by shard
abbrev pub AreRowsOfShardsAt : List ℕ → ℕ → ℕ → List ℕ → List ℕ → Type 0
AreRowsOfShardsAt words min total indices cells = (shards : List Shard) × AreShardsAt words min total indices shards × (cells ≡ flat_map (λ s. map number s.cells.items) shards)

-- the words are the numbers of the cells of the shards of the data, shard by shard
abbrev pub AreRowsOfShards : List ℕ → ℕ → ℕ → List ℕ → Type 0
AreRowsOfShards words min total cells = AreRowsOfShardsAt words min total (range_with_len 0 total) cells

-- the indices of the shards that are asked for
abbrev pub indices_in : WantedIndices → List ℕ
indices_in (wanted.All total) = range_with_len 0 total
indices_in (wanted.At indices) = indices.now

-- there is a row of `width` words for each shard that is asked for, and there are fewer than 2^64 words
pub record IsRoomFor (width : ℕ) (wanted : WantedIndices) (cells : List ℕ) : Type 0 where
  pub size : length cells ≡ length (indices_in wanted) * width
  pub fits : length cells < 2 ^ 64

-- the number in a cell of a shard: the value, at the power of the root that is its index, of the polynomial of the column
abbrev pub number_at : List ℕ → ℕ → ℕ → ℕ → ℕ → ℕ
number_at words min lg i k = number (value_at_index lg (column_of (residue 0) (rows_for min words) k) i)

-- the first n columns of rows of words have the numbers of the cells of the shards of these indices
abbrev pub HaveColumns : List ℕ → ℕ → ℕ → ℕ → List ℕ → ℕ → List ℕ → Type 0
HaveColumns words min lg width indices n cells = (t k : ℕ) → t < length indices → k < n → slice_index cells (t * width + k) ≡ number_at words min lg (slice_index indices t) k

-- the rows of words have the numbers of all cells of the shards that are asked for, of the data of a source
pub record AreSplit {W : Type 0} (word : W → ℕ) (source : Source W) (layout : Layout) (wanted : WantedIndices) (cells : List ℕ) : Type 0 where
  pub size : length cells ≡ length (indices_in wanted) * layout.width
  pub columns : HaveColumns (words_in word source) layout.min layout.lg layout.width (indices_in wanted) layout.width cells

-- the words are the numbers of the elements
abbrev pub AreNumbers : List F → List ℕ → Type 0
AreNumbers items words = words ≡ map number items

-- c columns of rows of words are written, from column `from` on: they are the numbers of these elements, and the columns before are as they were
pub record AreColumnsWritten (width from c rows : ℕ) (element : ℕ → ℕ → F) (old new : List ℕ) : Type 0 where
  pub written : (i k : ℕ) → i < rows → k < c → slice_index new (i * width + (from + k)) ≡ number (element i k)
  pub kept : (i k : ℕ) → i < rows → k < from → slice_index new (i * width + k) ≡ slice_index old (i * width + k)

-- the element in this column of the row of a strip that is in the place of the index
abbrev pub strip_element : ℕ → List ℕ → ℕ → List F → ℕ → ℕ → F
strip_element lg indices c strip t k = slice_index_or strip (place_of lg (slice_index indices t) * c + k) (residue 0)

-- of a strip of values the row of each shard that is asked for is written over the columns of the strip in the row of that shard
pub record IsStripWritten (strip : Strip) (wanted : WantedIndices) (values : List F) (old new : List ℕ) : Type 0 where
  pub size : length new ≡ length old
  pub columns : AreColumnsWritten strip.layout.width strip.from strip.cols (length (indices_in wanted)) (strip_element strip.layout.lg (indices_in wanted) strip.cols values) old new

-- the value, at the power of the root that is the index in this place, of the polynomial of this column of the matrix
abbrev pub value_element : List ℕ → ℕ → MatrixOf F → ℕ → ℕ → F
value_element indices lg m t k = value_at_index lg (column_of (residue 0) m k) (slice_index indices t)

-- s is shard t of the shards that rows of `width` cells are cut into: it has the numbers and the cells of its row
pub record IsCutAt (min total width : ℕ) (indices : List ℕ) (cells : List F) (t : ℕ) (s : Shard) : Type 0 where
  pub index : s.index ≡ slice_index indices t
  pub least : s.min ≡ min
  pub most : s.total ≡ total
  pub row : s.cells.items ≡ take width (drop (t * width) cells)

-- the shards are the first n that rows of cells are cut into
pub record AreCut (min total width : ℕ) (indices : List ℕ) (cells : List F) (n : ℕ) (shards : List Shard) : Type 0 where
  pub count : length shards ≡ n
  pub each : (t : ℕ) (d : Shard) → t < n → IsCutAt min total width indices cells t (slice_index_or shards t d)
