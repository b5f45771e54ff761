use Rattle.math_decoding.proofs.WrongPlaces.{AreGathered}
use Rattle.math_shards.specs.Correcting.{IsRowOf}
use Rattle.math_shards.proofs.UnlikeRows.{HoldsAtPosition}
use Rattle.math_shards.proofs.shards.correcting.unlike_rows.Given as goal

-- the positions so far at which the shard differs from its row
abbrev pub invariant-loop-position : goal.invariant-loop-position
invariant-loop-position l = AreGathered (HoldsAtPosition (IsRowOf l.values.matrix) l.shards) l.position l.out.items
