use Rattle.std.proofs.Common.{◌≡◌, length}
use Rattle.math_splitting.specs.declared.shards.layouts.Layout.{Layout}
use Rattle.math_shards.specs.Correcting.{is_settled, settled}
use Rattle.math_shards.proofs.GatheredShards.{HoldsFirst}
use Rattle.math_shards.proofs.KeptItems.{kept_of}
use Rattle.math_shards.proofs.shards.correcting.settled_rows.Given as goal

-- the settled ones of the shards so far are held in rows of a layout
abbrev pub invariant-loop-shard : goal.invariant-loop-shard
invariant-loop-shard l =
    (layout : Layout) × (layout.total ≡ l.first.total) × HoldsFirst layout.lg (length l.first.cells.items) (settled l.shards) (kept_of (is_settled l.shards) l.shards l.shard-index) l.values
