use Rattle.std.proofs.Common.{◌≡◌, ◌∙◌, ℕ, ◌+◌, ◌-◌, ◌*◌, ◌/◌, ◌^◌, ◌⊎◌, List, [], IfOk, IfSome, IfNone, OnOk, OnErr, ap, subst, sym}
use Rattle.math_theory.specs.Recovery.{count_true}
use Rattle.math_base.specs.Members.{RingOf}
use Rattle.math_base.proofs.Members.{ring_members}
use Rattle.math_transforms.specs.Matrices.{MatrixOf}
use Rattle.math_ntt.specs.AddedWork.{AddsUpTo}
use Rattle.math_ntt.specs.CorrectedRows.{AreWithinRadius, IsCorrected}
use Rattle.math_ntt.specs.Evaluations.{EvaluationsOf, evaluations_of}
use Rattle.math_ntt.specs.RecoveredRows.{AddsRecovery, IsExactWork, IsRefusedWork}
use Rattle.math_ntt.proofs.CopiedRecoveries.{err-at_any, none-at_any, ok-at_any, several-at_any, some-at_any, some_if-at_any}
use Rattle.math_ntt.proofs.ntt.evaluations.EvaluationVector.correct_counted.Given as given
use Rattle.math_ntt.proofs.ntt.evaluations.EvaluationVector.correct_counted.Goals as goal
use Rattle.math_ntt.proofs.ntt.evaluations.EvaluationVector.correct_counted.Goals.{After-lg_of-lg}

abbrev ring : (g : given.Over) → RingOf g.row.F.Denot
ring g = ring_members g.F.Multiplicative.product g.F.Debug.debug_output g.F.Object.same g.F.Object.NEVER_REFUSES g.F.Additive.zero g.F.Additive.sum g.F.Additive.negative g.F.Ring.one

-- the lg is that of the number of rows
rows : (g : given.Over) (c : After-lg_of-lg g) → c.self.inside.matrix.rows ≡ 2 ^ c.lg_of-lg.result
rows g c = sym (ap (λ (m : MatrixOf g.row.F.Denot). m.rows) c.matrix.view_is) ∙ c.lg_of-lg.ensures.value

pub returns-clause-most : goal.returns-clause-most
returns-clause-most g c =
    subst (λ (e : EvaluationsOf g.row.F.Denot). (m : ℕ) → e.matrix.rows ≡ 2 ^ m → let t = (count_true e.filled - c.args.count) / 2 + 1 in
    AddsUpTo (t * (e.matrix.rows * m * (3 * m + 3 * e.matrix.cols + 2)) / 2) (t * (128 * e.matrix.rows)) c.args.work.now c.without_wrong_rows.new.work)
    c.self.view_is
    (several-at_any c.self.inside.matrix.rows c.self.inside.matrix.cols c.lg_of-lg.result ((count_true c.self.inside.filled - c.args.count) / 2 + 1) c.args.work.now c.without_wrong_rows.new.work
    (rows g (goal.at.returns-clause-most g c).After-lg_of-lg) c.without_wrong_rows.ensures.most)

pub returns-clause-found : goal.returns-clause-found
returns-clause-found g c =
    subst (λ (e : EvaluationsOf g.row.F.Denot). IfOk c.without_wrong_rows.result (λ answer. IfSome answer (λ a.
    (l : ℕ) → e.matrix.rows ≡ 2 ^ l → IsCorrected (ring g) (g.F.FieldNTT.root l) e c.args.count a.polynomials a.wrong.items)))
    c.self.view_is
    (some-at_any c.without_wrong_rows.result c.self.inside.matrix.rows c.lg_of-lg.result
    (λ a l. IsCorrected (ring g) (g.F.FieldNTT.root l) (evaluations_of c.self.inside.matrix c.self.inside.filled) c.args.count a.polynomials a.wrong.items)
    (rows g (goal.at.returns-clause-found g c).After-lg_of-lg) c.without_wrong_rows.ensures.found)

pub returns-clause-none : goal.returns-clause-none
returns-clause-none g c =
    subst (λ (e : EvaluationsOf g.row.F.Denot). IfOk c.without_wrong_rows.result (λ answer. IfNone answer (
    (l : ℕ) → e.matrix.rows ≡ 2 ^ l → (a : ℕ → List g.row.F.Denot) → ¬ (AreWithinRadius (ring g) (g.F.FieldNTT.root l) e c.args.count a))))
    c.self.view_is
    (none-at_any c.without_wrong_rows.result c.self.inside.matrix.rows c.lg_of-lg.result
    (λ l. (a : ℕ → List g.row.F.Denot) → ¬ (AreWithinRadius (ring g) (g.F.FieldNTT.root l) (evaluations_of c.self.inside.matrix c.self.inside.filled) c.args.count a))
    (rows g (goal.at.returns-clause-none g c).After-lg_of-lg) c.without_wrong_rows.ensures.none)

pub returns-clause-exact : goal.returns-clause-exact
returns-clause-exact g c =
    subst (λ (e : EvaluationsOf g.row.F.Denot). IfOk c.without_wrong_rows.result (λ answer. IfSome answer (λ a.
    a.wrong.items ≡ [] → (l : ℕ) → e.matrix.rows ≡ 2 ^ l → IsExactWork l e c.args.work.now c.without_wrong_rows.new.work)))
    c.self.view_is
    (some_if-at_any c.without_wrong_rows.result c.self.inside.matrix.rows c.lg_of-lg.result (λ a. a.wrong.items ≡ [])
    (λ l. IsExactWork l (evaluations_of c.self.inside.matrix c.self.inside.filled) c.args.work.now c.without_wrong_rows.new.work)
    (rows g (goal.at.returns-clause-exact g c).After-lg_of-lg) c.without_wrong_rows.ensures.exact)

pub returns-clause-least : goal.returns-clause-least
returns-clause-least g c =
    subst (λ (e : EvaluationsOf g.row.F.Denot). OnOk c.without_wrong_rows.result ((l : ℕ) → e.matrix.rows ≡ 2 ^ l → AddsRecovery l e c.args.work.now c.without_wrong_rows.new.work))
    c.self.view_is
    (ok-at_any c.without_wrong_rows.result c.self.inside.matrix.rows c.lg_of-lg.result
    (λ l. AddsRecovery l (evaluations_of c.self.inside.matrix c.self.inside.filled) c.args.work.now c.without_wrong_rows.new.work)
    (rows g (goal.at.returns-clause-least g c).After-lg_of-lg) c.without_wrong_rows.ensures.least)

pub returns-clause-refused : goal.returns-clause-refused
returns-clause-refused g c =
    let R = λ (e : EvaluationsOf g.row.F.Denot) (l : ℕ). IsRefusedWork l e c.args.work.now c.without_wrong_rows.new.work ⊎ AddsRecovery l e c.args.work.now c.without_wrong_rows.new.work in
    subst (λ (e : EvaluationsOf g.row.F.Denot). OnErr c.without_wrong_rows.result ((l : ℕ) → e.matrix.rows ≡ 2 ^ l → R e l))
    c.self.view_is
    (err-at_any c.without_wrong_rows.result c.self.inside.matrix.rows c.lg_of-lg.result (λ l. R (evaluations_of c.self.inside.matrix c.self.inside.filled) l)
    (rows g (goal.at.returns-clause-refused g c).After-lg_of-lg) c.without_wrong_rows.ensures.refused)
