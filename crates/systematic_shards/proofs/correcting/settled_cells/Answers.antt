use Rattle.std.proofs.Common.{◌∙◌, ◌+◌, ◌*◌, ◌^◌, ap, sym, subst}
use Rattle.std.proofs.lemmas.Bool.{false≢true}
use Rattle.std.proofs.lemmas.List.{with_items_is}
use Rattle.systematic_shards.proofs.Settled.{AreWrittenBefore, written-more, written-none, written-passed}
use Rattle.systematic_shards.proofs.correcting.settled_cells.Goals as goal
use Rattle.systematic_shards.proofs.correcting.settled_cells.Goals.{then-has_elements, else-has_elements}

pub loop-row-init : goal.loop-row-init
loop-row-init g c =
    let width = c.args.code.split.width in
    written-none g.M.WordMemory.word c.args.code.split c.args.code.mask c.args.rows.now (2 ^ c.args.lg * width) c.in_ok-cells.cells.items
    (c.in_ok-cells.ensures ∙ ap (λ n. n * width) c.size_of.ensures)

pub loop-row-preserved : goal.loop-row-preserved
loop-row-preserved g c =
    let word = g.M.WordMemory.word in
    let split = c.args.code.split in
    let mask = c.args.code.mask in
    let rows = c.args.rows.now in
    let n = c.loop-row.row-index in
    let row = c.row-item.result in
    let size = 2 ^ c.args.lg * split.width in
    elim c.if-has_elements.branch [
      | then-has_elements w ↦
          let old = w.deref_mut.result.now in
          let new = w.put_elements.new.cells in
          let items = ap (λ v. v.items) w.cells-is ∙ with_items_is c.loop-row.cells new (w.put_elements.auto.cells ∙ w.deref_mut.ensures.len) in
          subst (AreWrittenBefore word split mask rows (n + 1) size) (sym items)
          (written-more word split mask rows n size row old new c.loop-row-test.true c.row-item.is (c.has_elements.ensures.0 w.if-has_elements.true) w.put_elements.auto.cells w.put_elements.ensures
          (subst (AreWrittenBefore word split mask rows n size) (sym w.deref_mut.ensures.value) c.loop-row.invariant))
      | else-has_elements w ↦
          subst (λ v. AreWrittenBefore word split mask rows (n + 1) size v.items) (sym w.cells-is)
          (written-passed word split mask rows n size row c.loop-row.cells.items c.loop-row-test.true c.row-item.is (λ h. false≢true (sym w.if-has_elements.false ∙ c.has_elements.ensures.1 h)) c.loop-row.invariant)
    ]
