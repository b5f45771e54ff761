use Rattle.std.proofs.Common.{arith, ◌≡◌, ◌∙◌, ◌+◌, ◌*◌, ◌/◌, ◌^◌, ◌++◌, length, take, drop, refl, ap, subst}
use Rattle.math_base.proofs.Members.{ring_members}
use Rattle.math_transforms.specs.DomainValues.{matrix_of, AreValuesOnDomain}
use Rattle.math_transforms.specs.Matrices.{MatrixOf}
use Rattle.math_base.proofs.WholeWrites.{take-written}
use Rattle.math_ntt.proofs.AddedWork.{adds-half}
use Rattle.math_transforms.proofs.OnDomain.{count-on_domain, values-on_domain}
use Rattle.math_ntt.proofs.ntt.polynomials.PolynomialVector.evaluate_counted.Goals as goal

pub returns-in_err-evaluate_rows-clause-work : goal.returns-in_err-evaluate_rows-clause-work
returns-in_err-evaluate_rows-clause-work g c = grind (arith, count-on_domain, adds-half)

pub returns-clause-work : goal.returns-clause-work
returns-clause-work g c = grind (arith, count-on_domain, adds-half)

pub returns-clause-values : goal.returns-clause-values
returns-clause-values g c =
    let R = ring_members g.F.Multiplicative.product g.F.Debug.debug_output g.F.Object.same g.F.Object.NEVER_REFUSES g.F.Additive.zero g.F.Additive.sum g.F.Additive.negative g.F.Ring.one in
    let new = c.evaluate_rows.new.cells in
    let vec = c.matrix.inside.cells in
    let written : take vec.len (new ++ drop (length new) vec.items) ≡ new = take-written vec.len vec.items new vec.ok.0 (c.evaluate_rows.auto.cells ∙ ap length c.deref_mut.ensures.value) in
    let out : MatrixOf g.row.F.Denot = matrix_of c.matrix.inside.rows c.matrix.inside.cols (take vec.len (new ++ drop (length new) vec.items)) in
    subst (λ (m : MatrixOf g.row.F.Denot). AreValuesOnDomain R g.F.FieldNTT.root m out) (c.matrix.view_is ∙ c.self.view_is)
    (values-on_domain R g.F.FieldNTT.root c.matrix.inside.rows c.matrix.inside.cols c.lg_of-lg.result vec.items
    (matrix_of (2 ^ c.lg_of-lg.result) c.matrix.inside.cols new) out c.lg_of-lg.ensures.value refl written
    (rw c.deref_mut.ensures.value at c.in_ok-evaluate_rows.ensures.values))
