use Rattle.std.proofs.Common.{◌≡◌, ◌∙◌, ◌+◌, ◌*◌, length, sym, ap, subst, arith}
use Rattle.std.proofs.lemmas.List.{length-map}
use Rattle.row_interpolation.specs.Written.{AreWritten}
use Rattle.systematic_shards.specs.declared.rows.Row.{Row}
use Rattle.systematic_shards.specs.Wanted.{AreCopied}
use Rattle.systematic_shards.proofs.Filled.{at-any, copied-more, copied-none}
use Rattle.systematic_shards.proofs.planning.write_copies.Goals as goal
use Rattle.systematic_shards.proofs.planning.write_copies.Goals.{in-Some, in_default}

pub loop-place-preserved : goal.loop-place-preserved
loop-place-preserved g c =
    let word = g.M.WordMemory.word in
    let width = c.args.width in
    let held = c.args.held.now in
    let indices = held.indices.items in
    let rows = held.rows.items in
    let count : length indices ≡ length rows = ap length held.are ∙ length-map rows (λ row. row.index) in
    let wanted = c.args.wanted.now in
    let n = c.loop-place.place in
    let now = word c.loop-place.out in
    elim c.match-position.branch [
      | in-Some w ↦
          let p = w.in-Some.p in
          let found = rw c.deref.ensures.value at w.in-Some.ensures.some in
          let new = word w.copy_row.new.out in
          let P : Row g.row.M.Denot → Type 0 = λ row. AreWritten (λ k. n * width + k) (word row.cells.now) width now new in
          subst (λ o. AreCopied word width indices rows wanted (n + 1) (word o)) (sym w.out-is)
          (copied-more word width indices rows wanted count n p now new held.rise found.0 found.1
          (at-any P rows p w.index.result.now (omega (arith, found.0, count)) (subst P w.index.ensures w.copy_row.ensures))
          c.loop-place.invariant)
      | in_default w ↦
          subst (λ o. AreCopied word width indices rows wanted (n + 1) (word o)) (sym w.out-is)
          (copied-none word width indices rows wanted count n now (rw (w.in_default.is, c.deref.ensures.value) at c.position.ensures.none) c.loop-place.invariant)
    ]
