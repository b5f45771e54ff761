use Rattle.std.proofs.Common.{ℕ, ◌*◌, ◌^◌, ◌≤◌, ◌∙◌, List, length, ap, sym, subst, arith}
use Rattle.math_restoring.specs.Restored.{HaveCellsAsValues}
use Rattle.math_restoring.specs.Restorers.{indices_of}
use Rattle.math_restoring.proofs.RestoredColumns.{no_columns, one_index}
use Rattle.math_restoring.proofs.restoring.put_restored.Goals as goal
use Rattle.math_restoring.proofs.restoring.put_restored.Goals.{then-width-eq0-via-then-width-eq0, then-width-eq0-via-else-width-eq0+then-part-eq0}

pub returns-then-width-eq0-clause-ok : goal.returns-then-width-eq0-clause-ok
returns-then-width-eq0-clause-ok c =
    elim c.then-width-eq0.branch [
      | then-width-eq0-via-then-width-eq0 w ↦ no_columns c.args.lg c.args.indices.now c.args.width c.args.cells.now c.args.cells.now w.if-width-eq0.true
      | then-width-eq0-via-else-width-eq0+then-part-eq0 w ↦
          let few : length c.args.indices.now ≤ 2 ^ 0 = subst (λ p. length c.args.indices.now ≤ 2 ^ p) w.if-part-eq0.true c.requires.few in
          one_index c.args.lg c.args.indices.now c.args.width c.args.cells.now (omega (arith, few, c.requires.some))
    ]

pub restore_strips-requires-clause-size : goal.restore_strips-requires-clause-size
restore_strips-requires-clause-size c = c.requires.size ∙ ap (λ xs. length xs * c.args.width) (sym c.in_ok-restorer.ensures.indices)

pub returns-clause-ok : goal.returns-clause-ok
returns-clause-ok c =
    let made = c.in_ok-restorer.ensures in
    let values = λ (n : ℕ) (indices : List ℕ). HaveCellsAsValues n indices c.args.width c.args.cells.now c.restore_strips.new.cells in
    subst (values c.args.lg) made.indices (subst (λ n. values n (indices_of c.in_ok-restorer.restorer)) made.sizes.0 c.restore_strips.ensures)
