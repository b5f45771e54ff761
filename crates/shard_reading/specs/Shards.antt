-- Which shards a block is joined from.
use Rattle.std.specs.Prelude.{◌≡◌}
use Rattle.math_splitting.specs.declared.shards.Shard.{Shard}
use Rattle.shard_format.specs.declared.header.Header.{Header}

-- the shard has the `min` and `total` of the split
pub record IsOfSplit (split : Header) (s : Shard) : Type 0 where
  pub least : s.min ≡ split.min
  pub most : s.total ≡ split.total
