use Rattle.std.proofs.Common.{◌≡◌, ◌∙◌, ℕ, length, sym, arith}
use Rattle.std.proofs.lemmas.Bool.{false≢true}
use Rattle.math_decoding.proofs.WrongPlaces.{gathered-passed, gathered-pushed}
use Rattle.math_shards.specs.Correcting.{IsRowOf}
use Rattle.math_shards.proofs.UnlikeRows.{HoldsAtPosition, holds_at, positions_gathered}
use Rattle.math_shards.proofs.shards.correcting.unlike_rows.Goals as goal
use Rattle.math_shards.proofs.shards.correcting.unlike_rows.Goals.{then-not-are_equal+in_ok-push, else-not-are_equal}

pub loop-position-preserved : goal.loop-position-preserved
loop-position-preserved c =
    let m = c.args.values.now.matrix in
    let shards = c.args.shards.now in
    let i = c.loop-position.position in
    let s = c.index-shards-position.result in
    let is = c.index-shards-position.is in
    let S : ℕ → Type 0 = HoldsAtPosition (IsRowOf m) shards in
    elim c.if-not-are_equal.branch [
      | then-not-are_equal+in_ok-push w ↦
          rw (w.out-is, w.in_ok-push.ensures.items)
          (gathered-pushed S i c.loop-position.out.items
          (λ h. false≢true (sym w.if-not-are_equal.true ∙ c.are_equal.ensures.1 (rw (c.row.ensures.row, c.deref.ensures.value) (h s (sym is))))) c.loop-position.invariant)
      | else-not-are_equal w ↦
          rw w.out-is
          (gathered-passed S i c.loop-position.out.items
          (holds_at (IsRowOf m) shards i s c.loop-position-test.true is (rw (c.row.ensures.row, c.deref.ensures.value) at (c.are_equal.ensures.0 w.if-not-are_equal.false))) c.loop-position.invariant)
    ]

pub returns : goal.returns
returns c =
    let all : c.loop-position.position ≡ length c.args.shards.now = omega arith in
    positions_gathered (IsRowOf c.args.values.now.matrix) c.args.shards.now c.loop-position.position c.loop-position.out.items all c.loop-position.invariant
