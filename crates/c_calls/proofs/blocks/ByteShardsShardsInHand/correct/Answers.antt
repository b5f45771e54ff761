use Rattle.std.proofs.Common.{arith, ◌⊎◌, ℕ, List, map, sym, ap, subst}
use Rattle.std.proofs.lemmas.Result.{err_from_is_err_and}
use Rattle.std.specs.Int.{from_be_bytes, w64}
use Rattle.math_splitting.specs.declared.shards.Shard.{Shard}
use Rattle.math_splitting.specs.DataWords.{spelled_words}
use Rattle.math_shards.specs.Joining.{IsMemory}
use Rattle.shard_blocks.specs.BlockWords.{words_of_bytes}
use Rattle.shard_blocks.specs.Correcting.{AreCorrectedBlock, IsBlockDueCorrecting}
use Rattle.c_calls.specs.WordElements.{AreElements}
use Rattle.c_calls.specs.WordShards.{AreWordShards}
use Rattle.c_calls.proofs.AlikeShards.{room_for_positions}
use Rattle.c_calls.proofs.ShardBytes.{due_of_refusals, refused_of_corrected}
use Rattle.c_calls.proofs.blocks.ByteShardsShardsInHand.correct.Goals as goal

pub shards_of_rows-requires-clause-below : goal.shards_of_rows-requires-clause-below
shards_of_rows-requires-clause-below c = subst AreElements (sym (ap (map (from_be_bytes w64)) c.as_chunks.ensures.front)) c.args.self.below

pub returns-in_err-joined-clause-due : goal.returns-in_err-joined-clause-due
returns-in_err-joined-clause-due c =
    let held = c.args.self in
    let shards : List Shard = c.in_ok-shards.shards.items in
    let are : AreWordShards held.min held.total held.indices.now (spelled_words held.bytes.now) shards =
    subst (λ (xs : List (List ℕ)). AreWordShards held.min held.total held.indices.now (map (from_be_bytes w64) xs) shards) c.as_chunks.ensures.front c.in_ok-shards.ensures in
    let q = err_from_is_err_and c.from_residual-in_err-joined.result c.from_residual-in_err-joined.ensures.1 in
    let e = c.in_err-joined.field-0.0 in
    let h = c.in_err-joined.ensures in
    let due = due_of_refusals (IsBlockDueCorrecting c.deref.result.now) e h.too_few h.mismatch h.index h.conflict h.inconsistent in
    rw (q.1, q.2) (refused_of_corrected held.min held.total held.indices.now held.bytes.now held.spelled shards e are
    (subst (λ (s : List Shard). IsMemory e ⊎ IsBlockDueCorrecting s e) c.deref.ensures.value due))

pub returns-clause-ok : goal.returns-clause-ok
returns-clause-ok c = grind arith

pub returns-clause-few : goal.returns-clause-few
returns-clause-few c =
    let held = c.args.self in
    let joined = c.in_ok-joined.joined in
    let shards : List Shard = c.in_ok-shards.shards.items in
    let are : AreWordShards held.min held.total held.indices.now (spelled_words held.bytes.now) shards =
    subst (λ (xs : List (List ℕ)). AreWordShards held.min held.total held.indices.now (map (from_be_bytes w64) xs) shards) c.as_chunks.ensures.front c.in_ok-shards.ensures in
    let h : AreCorrectedBlock joined.bytes.items joined.left_out.items shards =
    subst (λ (s : List Shard). AreCorrectedBlock joined.bytes.items joined.left_out.items s) c.deref.ensures.value c.in_ok-joined.ensures.ok in
    room_for_positions (words_of_bytes joined.bytes.items) joined.left_out.items held.min held.total held.indices.now (spelled_words held.bytes.now) shards are h.1
