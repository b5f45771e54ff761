use Rattle.std.proofs.Common.{arith, ℕ, List, subst}
use Rattle.std.proofs.lemmas.List.{map-id}
use Rattle.math_splitting.specs.declared.shards.Shard.{Shard}
use Rattle.math_shards.specs.Correcting.{AreCorrected}
use Rattle.math_shards.specs.WordShards.{AreWordShards}
use Rattle.c_calls.proofs.AlikeShards.{room_for_positions}
use Rattle.c_calls.proofs.shards.WordShardsShardsInHand.correct.Goals as goal

pub returns-clause-ok : goal.returns-clause-ok
returns-clause-ok c = grind (arith, map-id)

pub returns-clause-few : goal.returns-clause-few
returns-clause-few c =
    let held = c.args.self in
    let joined = c.in_ok-joined.joined in
    let shards : List Shard = c.in_ok-shards.shards.items in
    let are = subst (λ (ws : List ℕ). AreWordShards held.min held.total held.indices.now ws shards) (map-id held.cells.now) c.in_ok-shards.ensures in
    room_for_positions joined.words.items joined.left_out.items held.min held.total held.indices.now held.cells.now shards are
    (subst (λ (s : List Shard). AreCorrected joined.words.items joined.left_out.items s) c.deref.ensures.value c.in_ok-joined.ensures.ok)
