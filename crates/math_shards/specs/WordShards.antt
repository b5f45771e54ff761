-- Words as the cells of shards, a shard a row, and the data that they join to.
use Rattle.std.specs.Prelude.{◌≡◌, ℕ, ◌*◌, ◌≤◌, List, ◌++◌, length, drop, map, All}
use Rattle.std.specs.List.{flat_map}
use Rattle.math_fields.specs.Elements.{number}
use Rattle.math_splitting.specs.declared.shards.Shard.{Shard}
use Rattle.math_splitting.specs.Shards.{JoinTo}
use Rattle.math_shards.specs.declared.shards.Error.{Error}
use Rattle.math_shards.specs.Joining.{IsDue}

-- the shards have these indices, these numbers, and the same number of cells each; row by row the numbers of the cells are these words
pub record AreWordShards (min total : ℕ) (indices cells : List ℕ) (shards : List Shard) : Type 0 where
  pub keys : map (λ s. s.index) shards ≡ indices
  pub least : All (λ s. s.min ≡ min) shards
  pub most : All (λ s. s.total ≡ total) shards
  pub count : All (λ s. length cells ≡ length shards * length s.cells.items) shards
  pub rows : flat_map (λ s. map number s.cells.items) shards ≡ cells

-- the shards that the words are join to the data
abbrev pub DoJoinTo : List ℕ → ℕ → ℕ → List ℕ → List ℕ → Type 0
DoJoinTo words min total indices cells = (shards : List Shard) × AreWordShards min total indices cells shards × JoinTo words shards

-- this is wrong with the shards that the words are
abbrev pub AreRefused : Error → ℕ → ℕ → List ℕ → List ℕ → Type 0
AreRefused e min total indices cells = (shards : List Shard) × AreWordShards min total indices cells shards × IsDue shards e

-- the items stand in place of as many first ones, and the further ones are as they were
abbrev pub StandInFront : List ℕ → List ℕ → List ℕ → Type 0
StandInFront items old new = (length items ≤ length old) × (new ≡ items ++ drop (length items) old)
