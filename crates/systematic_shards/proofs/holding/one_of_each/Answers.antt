use Rattle.std.proofs.Common.{◌∙◌, inl, inr, refl, sym, subst}
use Rattle.std.specs.List.Sorted.{IsNonDecreasingBy, IsPermutation}
use Rattle.std.proofs.lemmas.List.{get_or_default}
use Rattle.std.proofs.lemmas.Result.{err_from_is_err_and}
use Rattle.systematic_shards.proofs.Held.{conflict-at, kept-all, kept-more}
use Rattle.systematic_shards.proofs.holding.one_of_each.Goals as goal

pub loop-row-preserved : goal.loop-row-preserved
loop-row-preserved g c =
    let rows = c.deref-row-items.result.now in
    let row = c.row-item.result in
    let n = c.loop-row.row-index in
    kept-more g.M.WordMemory.word c.args.code.split.width rows c.loop-row.kept.items c.push_unless_copy.new.kept.items n row
    (subst (λ xs. IsNonDecreasingBy (λ r. r.index) xs) (sym c.deref-row-items.ensures.value) c.in_ok-rising.ensures.rising) c.loop-row-test.true
    (λ d. c.row-item.is ∙ get_or_default rows n row d c.loop-row-test.true) c.in_ok-push_unless_copy.ensures.ok c.loop-row.invariant

pub returns-in_err-push_unless_copy-clause-err : goal.returns-in_err-push_unless_copy-clause-err
returns-in_err-push_unless_copy-clause-err g c =
    let rows = c.deref-row-items.result.now in
    let row = c.row-item.result in
    let n = c.loop-row.row-index in
    let q = err_from_is_err_and c.from_residual-in_err-push_unless_copy.result c.from_residual-in_err-push_unless_copy.ensures.1 in
    rw (q.1, q.2) (elim c.in_err-push_unless_copy.ensures.err [
      | inl memory ↦ inl memory
      | inr unlike ↦
          inr (
            unlike.0,
            conflict-at g.M.WordMemory.word c.args.code.split.width c.args.code.split c.args.rows.now rows c.loop-row.kept.items n row refl
                (subst (IsPermutation c.args.rows.now) (sym c.deref-row-items.ensures.value) c.in_ok-rising.ensures.all) c.loop-row-test.true
                (λ d. c.row-item.is ∙ get_or_default rows n row d c.loop-row-test.true) c.loop-row.invariant unlike.1,
          )
    ])

pub returns-clause-ok : goal.returns-clause-ok
returns-clause-ok g c =
    let rows = c.deref-row-items.result.now in
    kept-all g.M.WordMemory.word c.args.code.split.width c.args.rows.now rows c.loop-row.kept.items c.loop-row.row-index
    (subst (IsPermutation c.args.rows.now) (sym c.deref-row-items.ensures.value) c.in_ok-rising.ensures.all) c.loop-row-test.false c.loop-row.invariant c.loop-row.auto.row-index-end
