use Rattle.std.proofs.Common.{◌≡◌, ◌∙◌, ℕ, ◌^◌, ◌++◌, length, take, drop, ap, sym, subst}
use Rattle.math_base.proofs.WholeWrites.{take-written}
use Rattle.math_base.proofs.Members.{ring_members}
use Rattle.math_transforms.specs.DomainValues.{matrix_of}
use Rattle.math_transforms.specs.Matrices.{MatrixOf}
use Rattle.math_ntt.specs.AddedWork.{AddsAtMostOneRecovery}
use Rattle.math_ntt.specs.Evaluations.{EvaluationsOf}
use Rattle.math_ntt.specs.RecoveredRows.{AreOnlyRecovered, IsExactWork, IsRefusal}
use Rattle.math_ntt.proofs.AddedWork.{on-err, within-half}
use Rattle.math_ntt.proofs.RecoveredWholes.{evaluations, at_any, only-recovered}
use Rattle.math_ntt.proofs.ntt.evaluations.EvaluationVector.recover_counted.Given as given
use Rattle.math_ntt.proofs.ntt.evaluations.EvaluationVector.recover_counted.Goals as goal
use Rattle.math_ntt.proofs.ntt.evaluations.EvaluationVector.recover_counted.Goals.{After-recovered_cells}

module _ (g : given.Over) (c : After-recovered_cells g) where
  self_is : evaluations c.matrix.inside.rows c.matrix.inside.cols c.matrix.inside.cells.items c.self.inside.filled ≡ c.args.self
  self_is = ap (λ m. record { matrix = m; filled = c.self.inside.filled }) c.matrix.view_is ∙ c.self.view_is

  -- what holds at the lg of the cells holds at any lg of which the number of rows is the power
  at_its_lg : (P : ℕ → EvaluationsOf g.row.F.Denot → Type 0)
      → P c.lg_of-lg.result (evaluations (2 ^ c.lg_of-lg.result) c.matrix.inside.cols c.matrix.inside.cells.items c.self.inside.filled)
      → (m : ℕ) → c.args.self.matrix.rows ≡ 2 ^ m → P m c.args.self
  at_its_lg P h =
      subst (λ (e : EvaluationsOf g.row.F.Denot). (m : ℕ) → e.matrix.rows ≡ 2 ^ m → P m e) self_is
      (at_any P c.matrix.inside.rows c.matrix.inside.cols c.lg_of-lg.result c.matrix.inside.cells.items c.self.inside.filled c.lg_of-lg.ensures.value h)

  most : (m : ℕ) → c.args.self.matrix.rows ≡ 2 ^ m
      → AddsAtMostOneRecovery c.args.self.matrix.rows m c.args.self.matrix.cols c.args.work.now c.recovered_cells.new.work
  most =
      at_its_lg (λ m e. AddsAtMostOneRecovery e.matrix.rows m e.matrix.cols c.args.work.now c.recovered_cells.new.work)
      (within-half _ _ _ _ c.recovered_cells.ensures.most)

pub returns-in_err-recovered_cells-clause-most : goal.returns-in_err-recovered_cells-clause-most
returns-in_err-recovered_cells-clause-most g c = most g (goal.at.returns-in_err-recovered_cells-clause-most g c).After-recovered_cells

pub returns-clause-most : goal.returns-clause-most
returns-clause-most g c = most g (goal.at.returns-clause-most g c).After-recovered_cells

pub returns-clause-exact : goal.returns-clause-exact
returns-clause-exact g c =
    at_its_lg g (goal.at.returns-clause-exact g c).After-recovered_cells (λ m e. IsExactWork m e c.args.work.now c.recovered_cells.new.work)
    (rw c.deref_mut.ensures.value at c.in_ok-recovered_cells.ensures.recovered.exact)

pub returns-in_err-recovered_cells-clause-refused : goal.returns-in_err-recovered_cells-clause-refused
returns-in_err-recovered_cells-clause-refused g c = on-err c.from_residual.result (
    at_its_lg g (goal.at.returns-in_err-recovered_cells-clause-refused g c).After-recovered_cells (λ m e. IsRefusal g.F.Object.NEVER_REFUSES m e c.args.work.now c.recovered_cells.new.work)
    (rw c.deref_mut.ensures.value at c.in_err-recovered_cells.ensures.refused))

pub returns-clause-only : goal.returns-clause-only
returns-clause-only g c =
    let F = g.met.F in
    let inner = c.matrix.inside in
    let whole = self_is g (goal.at.returns-clause-only g c).After-recovered_cells in
    let lg = c.lg_of-lg.result in
    let domain = c.requires.domain lg (sym (ap (λ (e : EvaluationsOf g.row.F.Denot). e.matrix.rows) whole) ∙ c.lg_of-lg.ensures.value) in
    let long : length c.self.inside.filled ≡ 2 ^ lg = c.self.invariant.1 ∙ sym (ap (λ (m : MatrixOf g.row.F.Denot). m.rows) c.matrix.view_is) ∙ c.lg_of-lg.ensures.value in
    let new = c.recovered_cells.new.cells in
    let old = inner.cells.items in
    let kept : length new ≡ length old = c.recovered_cells.auto.cells ∙ ap length c.deref_mut.ensures.value in
    let written : take inner.cells.len (new ++ drop (length new) old) ≡ new = take-written inner.cells.len old new inner.cells.ok.0 kept in
    let R = ring_members g.F.Multiplicative.product g.F.Debug.debug_output g.F.Object.same g.F.Object.NEVER_REFUSES g.F.Additive.zero g.F.Additive.sum g.F.Additive.negative g.F.Ring.one in
    rw written
    (subst (λ (e : EvaluationsOf g.row.F.Denot). AreOnlyRecovered R g.F.FieldNTT.root e (matrix_of inner.rows inner.cols new)) whole
    (only-recovered R F.Object.equality F.Additive.group F.Multiplicative.commutes F.Ring.ring F.Field.field g.F.FieldNTT.root g.F.FieldNTT.shift inner.rows inner.cols lg c.lg_of-lg.ensures.value
    (F.FieldNTT.roots.order lg domain) F.FieldNTT.roots.shift_is_not_zero (F.FieldNTT.roots.shift_is_no_power lg domain) old new c.self.inside.filled long
    (rw c.deref_mut.ensures.value at c.in_ok-recovered_cells.ensures.recovered.fits)))
