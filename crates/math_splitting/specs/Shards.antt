-- Data, which are a list of words, in shards: the rows of elements that they fill, and what each shard holds.
use Rattle.std.specs.Prelude.{◌≡◌, ℕ, ◌-◌, ◌*◌, ◌<◌, ◌≤◌, ◌^◌, ◌==◌, List, ◌∷◌, ◌++◌, Bool, length, map, replicate, slice_index_or, count_by, All, Any}
use Rattle.std.specs.Int.{IsNextPowerOfTwo}
use Rattle.std.specs.List.{list_any, range_with_len}
use Rattle.math_numbers.specs.Bits.{piece_count}
use Rattle.math_theory.specs.Powers.{power}
use Rattle.math_theory.specs.Values.{value}
use Rattle.math_fields.specs.declared.goldilocks.F.{F}
use Rattle.math_fields.specs.Elements.{residue, same, sum, product, root_of}
use Rattle.math_fields.specs.Packing.{elements_of}
use Rattle.math_transforms.specs.Matrices.{MatrixOf, column_of}
use Rattle.math_splitting.specs.declared.shards.Shard.{Shard}
use Rattle.math_splitting.specs.ShardEncoding.{AreSameShards}

-- what is packed: how many words there are, and then these
abbrev pub counted : List ℕ → List ℕ
counted words = length words ∷ words

-- the elements that these words pack to
abbrev pub elements_for : List ℕ → List F
elements_for words = elements_of (counted words)

-- how many elements a row has where `min` rows hold them all
abbrev pub width_for : ℕ → List ℕ → ℕ
width_for min words = piece_count min (length (elements_for words))

-- the elements, and after them as many zeros as make up n items
abbrev pub with_zeros : ℕ → List F → List F
with_zeros n elements = elements ++ replicate (n - length elements) (residue 0)

-- the matrix of `min` rows that the elements fill row by row, with zeros in the cells that are left
abbrev pub rows_for : ℕ → List ℕ → MatrixOf F
rows_for min words = let width = width_for min words in record { rows = min; cols = width; cells = with_zeros (min * width) (elements_for words) }

-- the value of a polynomial at power i of the root of order 2^lg
abbrev pub value_at_index : ℕ → List F → ℕ → F
value_at_index lg coefficients i = value (residue 0) sum product (residue 1) (power (residue 1) product (root_of lg) i) coefficients

-- s is the shard of its index for the data, of which `min` give them back and `total` are made: cell k is the value, at the power of the root that
-- is its index, of the polynomial whose coefficients are column k of the rows; the domain is the least that has `total` points
pub record IsShardOf (words : List ℕ) (min total : ℕ) (s : Shard) : Type 0 where
  pub index : s.index < total
  pub least : s.min ≡ min
  pub most : s.total ≡ total
  pub count : length s.cells.items ≡ width_for min words
  pub values : (lg k : ℕ) → IsNextPowerOfTwo total (2 ^ lg) → k < width_for min words
      → same (slice_index_or s.cells.items k (residue 0)) (value_at_index lg (column_of (residue 0) (rows_for min words) k) s.index)

-- the shards are the shards of the data with these indices, in this order
pub record AreShardsAt (words : List ℕ) (min total : ℕ) (wanted : List ℕ) (shards : List Shard) : Type 0 where
  pub indices : map (λ s. s.index) shards ≡ wanted
  pub each : All (IsShardOf words min total) shards

-- the shards are the shards of the data with the indices from 0 to total - 1, in order
abbrev pub AreShardsOf : List ℕ → ℕ → ℕ → List Shard → Type 0
AreShardsOf words min total shards = AreShardsAt words min total (range_with_len 0 total) shards

-- whether some shard has the index i
abbrev pub has_index : List Shard → ℕ → Bool
has_index shards i = list_any (λ s. s.index == i) shards

-- how many of the numbers below n are indices of shards
abbrev pub distinct_indices : ℕ → List Shard → ℕ
distinct_indices n shards = count_by (has_index shards) (range_with_len 0 n)

-- the shards give the data back: each is the one of its index for the data, and at least `min` have distinct indices
pub record JoinTo (words : List ℕ) (shards : List Shard) : Type 0 where
  pub min : ℕ
  pub total : ℕ
  pub some : 1 ≤ min
  pub within : min ≤ total
  pub short : total < 2 ^ 32
  pub each_word : All (λ word. word < 2 ^ 64) words
  pub few : length words < 2 ^ 64
  pub enough : min ≤ distinct_indices total shards
  pub each : All (IsShardOf words min total) shards

-- shards join to one list of data at most
abbrev pub HaveOneData : Type 0
HaveOneData = (words others : List ℕ) (shards : List Shard) → JoinTo words shards → JoinTo others shards → words ≡ others

-- one of the shards has the same numbers and the same cells as s
abbrev pub IsSameAsOne : List Shard → Shard → Type 0
IsSameAsOne shards s = Any (λ t. AreSameShards t s) shards

-- shards each of which is the same as one of the shards of data, in any order and some of them twice: where at least `min` have distinct indices, they join to the data
abbrev pub ChosenShardsJoin : Type 0
ChosenShardsJoin =
    (words : List ℕ) (min total : ℕ) (shards chosen : List Shard) → 1 ≤ min → min ≤ total → total < 2 ^ 32 → All (λ word. word < 2 ^ 64) words → length words < 2 ^ 64
    → AreShardsOf words min total shards → All (IsSameAsOne shards) chosen → min ≤ distinct_indices total chosen → JoinTo words chosen
