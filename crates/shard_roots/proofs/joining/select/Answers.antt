use Rattle.std.proofs.Common.{◌≡◌, ◌<◌, ◌∙◌, length, sym, arith}
use Rattle.std.proofs.lemmas.Bool.{false≢true}
use Rattle.sha2.specs.Sha512.{sha512_256}
use Rattle.math_decoding.proofs.WrongPlaces.{gathered-passed, gathered-pushed}
use Rattle.shard_roots.specs.declared.shards.Shard.{Shard}
use Rattle.shard_roots.specs.Joining.{IsShardUnder}
use Rattle.shard_roots.proofs.Selected.{HoldsAt, differs-item, holds-item, kept-passed-item, kept-pushed-item, positions-gathered}
use Rattle.shard_roots.proofs.joining.select.Goals as goal
use Rattle.shard_roots.proofs.joining.select.Goals.{then-is_shard_under+in_ok-push, else-is_shard_under+in_ok-push-2}

pub loop-position-preserved : goal.loop-position-preserved
loop-position-preserved c =
    let P : Shard → Type 0 = IsShardUnder sha512_256 c.args.split c.args.top.now in
    let shards = c.args.shards.now in
    let i = c.loop-position.position in
    let l : i < length shards = c.loop-position-test.true in
    elim c.if-is_shard_under.branch [
      | then-is_shard_under+in_ok-push w ↦
          rw (w.kept-is, w.left_out-is, w.in_ok-push.ensures.items) (
            kept-pushed-item P shards i _ l c.loop-position.kept.items (c.is_shard_under.ensures.0 w.if-is_shard_under.true) c.loop-position.invariant.0,
            gathered-passed (HoldsAt P shards) i c.loop-position.left_out.items (holds-item P shards i _ l (c.is_shard_under.ensures.0 w.if-is_shard_under.true)) c.loop-position.invariant.1,
          )
      | else-is_shard_under+in_ok-push-2 w ↦
          rw (w.kept-is, w.left_out-is, w.in_ok-push-2.ensures.items) (
            kept-passed-item P shards i _ l c.loop-position.kept.items (λ p. false≢true (sym w.if-is_shard_under.false ∙ c.is_shard_under.ensures.1 p)) c.loop-position.invariant.0,
            gathered-pushed (HoldsAt P shards) i c.loop-position.left_out.items (differs-item P shards i _ l (λ p. false≢true (sym w.if-is_shard_under.false ∙ c.is_shard_under.ensures.1 p)))
                c.loop-position.invariant.1,
          )
    ]

pub returns-clause-left_out : goal.returns-clause-left_out
returns-clause-left_out c =
    let all : c.loop-position.position ≡ length c.args.shards.now = omega arith in
    positions-gathered (IsShardUnder sha512_256 c.args.split c.args.top.now) c.args.shards.now c.loop-position.position c.loop-position.left_out.items all c.loop-position.invariant.1
