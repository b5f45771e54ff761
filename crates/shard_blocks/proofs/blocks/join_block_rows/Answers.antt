use Rattle.std.proofs.Common.{◌≡◌, ◌∙◌, ◌⊎◌, ◌≤◌, ◌++◌, ℕ, inr, List, drop, length, map, ap, ap₂, subst, sym, arith}
use Rattle.std.proofs.lemmas.List.{length-take-le}
use Rattle.std.proofs.lemmas.Result.{err_from_is_err_and}
use Rattle.std.specs.Int.{from_be_bytes, w64}
use Rattle.math_splitting.specs.DataWords.{spelled_words}
use Rattle.math_splitting.specs.Shards.{JoinTo, distinct_indices}
use Rattle.math_shards.specs.Joining.{HaveConflict, IsMemory}
use Rattle.math_shards.specs.WordShards.{AreWordShards}
use Rattle.math_shards.proofs.DueErrors.{joined_beside, joined_of_some}
use Rattle.math_shards.proofs.OnlyData.{only_data}
use Rattle.shard_blocks.specs.Blocks.{AreRowsRefused}
use Rattle.shard_blocks.proofs.BlockErrors.{inconsistent_of_words, rows_refused}
use Rattle.shard_blocks.proofs.blocks.join_block_rows.Goals as goal

pub returns-in_err-packed-clause-due : goal.returns-in_err-packed-clause-due
returns-in_err-packed-clause-due c =
    let q = err_from_is_err_and c.from_residual.result c.from_residual.ensures.1 in
    let e = c.in_err-packed.field-0.0 in
    let cells = map (from_be_bytes w64) c.as_chunks.result.0.now in
    let words : cells ≡ spelled_words c.args.shards.now = ap (map (from_be_bytes w64)) c.as_chunks.ensures.front in
    rw (q.1, q.2) (subst (λ ws. IsMemory e ⊎ AreRowsRefused e c.args.min c.args.total c.args.indices.now ws) words
    (rows_refused c.args.min c.args.total c.args.indices.now cells e c.in_err-packed.ensures.due))

pub returns-in_default-clause-due : goal.returns-in_default-clause-due
returns-in_default-clause-due c =
    let words : map (from_be_bytes w64) c.as_chunks.result.0.now ≡ spelled_words c.args.shards.now = ap (map (from_be_bytes w64)) c.as_chunks.ensures.front in
    let found = c.in_ok-packed.ensures.ok in
    let shards = found.2.0 in
    inr (
      shards,
      subst (λ ws. AreWordShards c.args.min c.args.total c.args.indices.now ws shards) words found.2.1,
      inconsistent_of_words HaveConflict distinct_indices JoinTo joined_of_some joined_beside only_data found.0 shards found.2.2
          (λ block of. rw c.in_default.is at (c.block_size.ensures.found found.0 block found.1 of)),
    )

pub returns-then-size-out-clause-none : goal.returns-then-size-out-clause-none
returns-then-size-out-clause-none c =
    let words : map (from_be_bytes w64) c.as_chunks.result.0.now ≡ spelled_words c.args.shards.now = ap (map (from_be_bytes w64)) c.as_chunks.ensures.front in
    let found = c.in_ok-packed.ensures.ok in
    let shards = found.2.0 in
    let of = rw c.in-Some.is at (c.block_size.ensures.some found.0 found.1) in (
      of.0,
      (shards, subst (λ ws. AreWordShards c.args.min c.args.total c.args.indices.now ws shards) words found.2.1, (of.1.0, subst (λ ws. JoinTo ws shards) of.1.1 found.2.2)),
      omega (arith, of.2, c.if-size-out.true),
    )

pub returns-clause-some : goal.returns-clause-some
returns-clause-some c =
    let words : map (from_be_bytes w64) c.as_chunks.result.0.now ≡ spelled_words c.args.shards.now = ap (map (from_be_bytes w64)) c.as_chunks.ensures.front in
    let found = c.in_ok-packed.ensures.ok in
    let shards = found.2.0 in
    let size = c.in-Some.size in
    let of = rw c.in-Some.is at (c.block_size.ensures.some found.0 found.1) in
    let room : size ≤ length c.args.out.now = omega (arith, c.if-size-out.false) in
    let out = c.write_block.ensures found.0 of.0 found.1 of.1 (of.2 ∙ sym (length-take-le size c.args.out.now room)) in (
      of.0,
      (shards, subst (λ ws. AreWordShards c.args.min c.args.total c.args.indices.now ws shards) words found.2.1, (of.1.0, subst (λ ws. JoinTo ws shards) of.1.1 found.2.2)),
      sym of.2,
      (omega (arith, of.2, room), ap₂ (λ (xs : List ℕ) n. xs ++ drop n c.args.out.now) out (sym of.2)),
    )
