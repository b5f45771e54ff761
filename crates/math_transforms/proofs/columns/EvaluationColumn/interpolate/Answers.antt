use Rattle.std.proofs.Common.{◌≡◌, ◌∙◌, ◌^◌, ◌++◌, length, take, drop, refl, sym, ap, arith}
use Rattle.math_base.proofs.Members.{ring_members}
use Rattle.math_transforms.specs.DomainValues.{matrix_of, one_column}
use Rattle.math_base.proofs.WholeWrites.{take-written}
use Rattle.math_transforms.proofs.OnDomain.{values-on_domain}
use Rattle.math_transforms.proofs.columns.EvaluationColumn.interpolate.Goals as goal

pub returns-clause-values : goal.returns-clause-values
returns-clause-values g c =
    let R = ring_members g.F.Multiplicative.product g.F.Debug.debug_output g.F.Object.same g.F.Object.NEVER_REFUSES g.F.Additive.zero g.F.Additive.sum g.F.Additive.negative g.F.Ring.one in
    let new = c.interpolate_rows.new.cells in
    let vec = c.self.inside.values in
    let kept : length new ≡ length vec.items = c.interpolate_rows.auto.cells ∙ ap length c.deref_mut.ensures.value in
    let size : length vec.items ≡ 2 ^ c.lg_of-lg.result = omega (arith, c.len.ensures, vec.ok.0, c.lg_of-lg.ensures.value) in
    let written : take vec.len (new ++ drop (length new) vec.items) ≡ new = take-written vec.len vec.items new vec.ok.0 kept in
    rw written
    (values-on_domain R g.F.FieldNTT.root (length new) 1 c.lg_of-lg.result new (matrix_of (2 ^ c.lg_of-lg.result) 1 vec.items) (one_column c.args.self) (kept ∙ size)
    refl (sym c.self.view_is) (rw c.deref_mut.ensures.value at c.in_ok-interpolate_rows.ensures.values))
