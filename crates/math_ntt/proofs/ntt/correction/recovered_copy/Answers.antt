use Rattle.std.proofs.Common.{◌≡◌, ◌∙◌, ◌++◌, ◌*◌, ◌^◌, ◌<◌, length, take, drop, ap, ap₂, sym, arith}
use Rattle.std.proofs.lemmas.List.Elements.{length_all_zip}
use Rattle.std.specs.List.{AllZip}
use Rattle.math_base.proofs.WholeWrites.{take-written}
use Rattle.math_base.proofs.Members.{ring_members}
use Rattle.math_transforms.specs.Matrices.{MatrixOf}
use Rattle.math_ntt.specs.AddedWork.{AddsOneRecovery}
use Rattle.math_ntt.proofs.CopiedRecoveries.{IsAdded, IsNone, added-within, added-exact, added-refused, copied-fits}
use Rattle.math_ntt.proofs.RecoveryOutcomes.{refused-none}
use Rattle.math_ntt.proofs.AddedWork.{on-err}
use Rattle.math_ntt.proofs.ntt.correction.recovered_copy.Given as given
use Rattle.math_ntt.proofs.ntt.correction.recovered_copy.Goals as goal
use Rattle.math_ntt.proofs.ntt.correction.recovered_copy.Goals.{After-saturating_add}

module _ (g : given.Over) (c : After-saturating_add g) where
  rows : c.matrix.inside.rows ≡ 2 ^ c.args.lg
  rows = ap (λ (m : MatrixOf g.row.F.Denot). m.rows) c.matrix.view_is ∙ c.requires.rows

  cols : c.matrix.inside.cols ≡ c.args.matrix.now.cols
  cols = ap (λ (m : MatrixOf g.row.F.Denot). m.cols) c.matrix.view_is

  fits : 2 ^ c.args.lg * c.matrix.inside.cols < 2 ^ 64
  fits = grind arith

  none : IsNone c.new-counted.result
  none = record { butterflies = c.new-counted.ensures.butterflies; root_products = c.new-counted.ensures.root_products }

  added : IsAdded c.args.work.now c.recovered_cells-outcome.new.work c.saturating_add.new.self
  added = grind arith

  most : AddsOneRecovery c.args.lg c.args.matrix.now.cols c.args.work.now c.saturating_add.new.self
  most = rw (← cols) (added-within _ _ _ _ _ _ none c.recovered_cells-outcome.ensures.most added)

pub returns-in_err-outcome-clause-most : goal.returns-in_err-outcome-clause-most
returns-in_err-outcome-clause-most g c = most g (goal.at.returns-in_err-outcome-clause-most g c).After-saturating_add

pub returns-clause-polynomials : goal.returns-clause-polynomials
returns-clause-polynomials g c =
    let F = g.met.F in
    let at = (goal.at.returns-clause-polynomials g c).After-saturating_add in
    let inner = c.matrix.inside in
    let copies = c.in_ok-cells.cells.items in
    let new = c.recovered_cells-outcome.new.cells in
    let kept : length new ≡ length copies = c.recovered_cells-outcome.auto.cells ∙ ap length c.deref_mut.ensures.value in
    let written : take c.in_ok-cells.cells.len (new ++ drop (length new) copies) ≡ new = take-written c.in_ok-cells.cells.len copies new c.in_ok-cells.cells.ok.0 kept in
    let R = ring_members g.F.Multiplicative.product g.F.Debug.debug_output g.F.Object.same g.F.Object.NEVER_REFUSES g.F.Additive.zero g.F.Additive.sum g.F.Additive.negative g.F.Ring.one in
    let copied : AllZip g.F.Object.same copies inner.cells.items = rw c.deref.ensures.value at c.in_ok-cells.ensures in
    rw written
    (record {
      size = (rows g at ∙ sym c.requires.rows, cols g at, kept ∙ length_all_zip g.F.Object.same copies inner.cells.items copied ∙ c.matrix.invariant ∙ ap₂ (λ r k. r * k) (rows g at ∙ sym c.requires.rows) (cols g at));
      fits = copied-fits R F.Object.equality g.F.FieldNTT.root c.args.lg inner.cols c.args.filled.now inner.cells.items copies new inner.rows c.args.matrix.now c.matrix.view_is (rows g at) c.matrix.invariant copied
          (rw c.deref_mut.ensures.value at c.in_ok-outcome.ensures.recovered.fits);
    })

pub returns-clause-exact : goal.returns-clause-exact
returns-clause-exact g c room = grind (arith, After-saturating_add, added-exact)

pub returns-in_err-outcome-clause-refused : goal.returns-in_err-outcome-clause-refused
returns-in_err-outcome-clause-refused g c = on-err c.from_residual-in_err-outcome.result (λ room.
    let at = (goal.at.returns-in_err-outcome-clause-refused g c).After-saturating_add in
    added-refused c.args.lg c.matrix.inside.cols _ _ _ _ c.requires.lg.small (fits g at) (none g at) c.recovered_cells-outcome.ensures.most (added g at)
    room c.in_ok-cells.cells.items c.args.matrix.now c.args.filled.now c.requires.rows (cols g at) (rw c.deref_mut.ensures.value at c.in_err-outcome.ensures.refused.refused))

pub returns-in_err-cells-clause-refused : goal.returns-in_err-cells-clause-refused
returns-in_err-cells-clause-refused g c = on-err c.from_residual.result (λ room. refused-none _ _ _)
