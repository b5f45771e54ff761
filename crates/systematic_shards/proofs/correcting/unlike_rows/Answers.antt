use Rattle.std.proofs.Common.{◌≡◌, ◌∙◌, ℕ, length, sym, arith}
use Rattle.std.proofs.lemmas.Bool.{false≢true}
use Rattle.math_decoding.proofs.WrongPlaces.{gathered-passed, gathered-pushed}
use Rattle.systematic_shards.specs.declared.rows.Row.{Row}
use Rattle.systematic_shards.specs.Correcting.{cells_at}
use Rattle.systematic_shards.specs.Shards.{IsRowOf}
use Rattle.systematic_shards.proofs.Positions.{HoldsAtPosition, holds-at, positions-gathered}
use Rattle.systematic_shards.proofs.correcting.unlike_rows.Goals as goal
use Rattle.systematic_shards.proofs.correcting.unlike_rows.Goals.{then-not-is_row+in_ok-push, else-not-is_row}

pub loop-position-preserved : goal.loop-position-preserved
loop-position-preserved g c =
    let word = g.M.WordMemory.word in
    let split = c.args.code.split in
    let a = cells_at split.width c.args.cells.now in
    let P : Row g.row.M.Denot → Type 0 = λ row. IsRowOf split c.args.code.mask a row.index (word row.cells.now) in
    let rows = c.args.rows.now in
    let i = c.loop-position.position in
    let row = c.index-rows-position.result in
    let is = c.index-rows-position.is in
    let S : ℕ → Type 0 = HoldsAtPosition P rows in
    elim c.if-not-is_row.branch [
      | then-not-is_row+in_ok-push w ↦
          rw (w.positions-is, w.in_ok-push.ensures.items)
          (gathered-pushed S i c.loop-position.positions.items (λ h. false≢true (sym w.if-not-is_row.true ∙ c.is_row.ensures.1 (h row (sym is)))) c.loop-position.invariant)
      | else-not-is_row w ↦
          rw w.positions-is
          (gathered-passed S i c.loop-position.positions.items (holds-at P rows i row c.loop-position-test.true is (c.is_row.ensures.0 w.if-not-is_row.false)) c.loop-position.invariant)
    ]

pub returns : goal.returns
returns g c =
    let split = c.args.code.split in
    let all : c.loop-position.position ≡ length c.args.rows.now = omega arith in
    positions-gathered (λ row. IsRowOf split c.args.code.mask (cells_at split.width c.args.cells.now) row.index (g.M.WordMemory.word row.cells.now)) c.args.rows.now c.loop-position.position c.loop-position.positions.items all c.loop-position.invariant
