-- Words as shards of data, a shard a row.
use Rattle.std.specs.Prelude.{◌≡◌, ℕ, ◌*◌, ◌<◌, ◌≤◌, ◌^◌, List, length}
use Rattle.std.specs.List.{range_with_len}
use Rattle.math_splitting.specs.declared.shards.Shard.{Shard}
use Rattle.math_shards.specs.declared.shards.Error.{Error}
use Rattle.math_splitting.specs.Shards.{AreShardsOf, width_for}
pub use Rattle.math_shards.specs.WordShards.{AreRefused, AreWordShards, DoJoinTo}
use Rattle.math_shards.specs.Correcting.{AreCorrected, IsDueCorrecting}

-- the shards of `words` words, of which `min` give these back, have `cells` cells each; the words, and the cells of all shards, are below
-- 2^57
pub record HaveShardSizes (words min total cells : ℕ) : Type 0 where
  pub few : words < 2 ^ 57
  pub count : (xs : List ℕ) → length xs ≡ words → cells ≡ width_for min xs
  pub room : total * cells < 2 ^ 57

-- n cells are as many rows as there are indices
abbrev pub AreRowsOf : ℕ → ℕ → Type 0
AreRowsOf n rows = (cols : ℕ) × (n ≡ rows * cols)

-- the words are, row by row, the shards of the data, in the order of their indices
abbrev pub AreWordsOfShards : List ℕ → ℕ → ℕ → List ℕ → Type 0
AreWordsOfShards words min total cells =
    (shards : List Shard) × AreShardsOf words min total shards × AreWordShards min total (range_with_len 0 total) cells shards

-- the shards that the words are have these data, however some are wrong, and these are the positions of the wrong ones
abbrev pub DoCorrectTo : List ℕ → List ℕ → ℕ → ℕ → List ℕ → List ℕ → Type 0
DoCorrectTo words positions min total indices cells = (shards : List Shard) × AreWordShards min total indices cells shards × AreCorrected words positions shards

-- this is wrong with the shards that the words are, where they are corrected
abbrev pub AreRefusedCorrecting : Error → ℕ → ℕ → List ℕ → List ℕ → Type 0
AreRefusedCorrecting e min total indices cells = (shards : List Shard) × AreWordShards min total indices cells shards × IsDueCorrecting shards e
