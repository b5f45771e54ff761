use Rattle.std.proofs.Common.{◌≡◌, ◌∙◌, ℕ, ◌+◌, ◌*◌, ◌<◌, length, ap, subst, arith}
use Rattle.std.proofs.lemmas.List.{length-map}
use Rattle.systematic_shards.specs.declared.rows.Row.{Row}
use Rattle.systematic_shards.specs.Words.{IsWithin}
use Rattle.systematic_shards.proofs.Filled.{at-any, within-more, within-none}
use Rattle.systematic_shards.proofs.planning.are_copies_within.Goals as goal
use Rattle.systematic_shards.proofs.planning.are_copies_within.Goals.{in-Some+else-not-is_row_within, in_default}

pub loop-place-preserved : goal.loop-place-preserved
loop-place-preserved g c =
    let word = g.M.WordMemory.word in
    let width = c.args.width in
    let size = c.args.size in
    let held = c.args.held.now in
    let indices = held.indices.items in
    let rows = held.rows.items in
    let count : length indices ≡ length rows = ap length held.are ∙ length-map rows (λ row. row.index) in
    let wanted = c.args.wanted.now in
    let n = c.loop-place.place in
    elim c.match-position.branch [
      | in-Some+else-not-is_row_within w ↦
          let p = w.in-Some.p in
          let P : Row g.row.M.Denot → Type 0 = λ row. (k : ℕ) → k < width → IsWithin size (n * width + k) (word row.cells.now k) in
          let found = rw c.deref.ensures.value at w.in-Some.ensures.some in
          within-more word width indices rows wanted count size n p held.rise found.0 found.1
          (at-any P rows p w.index.result.now (omega (arith, found.0, count)) (subst P w.index.ensures (w.is_row_within.ensures.0 w.if-not-is_row_within.false)))
          c.loop-place.invariant
      | in_default w ↦ within-none word width indices rows wanted count size n (rw (w.in_default.is, c.deref.ensures.value) at c.position.ensures.none) c.loop-place.invariant
    ]
