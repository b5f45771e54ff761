use Rattle.std.proofs.Common.{◌≡◌, ◌∙◌, ◌++◌, length, take, drop, ap, arith}
use Rattle.math_base.proofs.WholeWrites.{take-written}
use Rattle.math_transforms.proofs.DomainSteps.{value-moved}
use Rattle.math_base.proofs.Members.{ring_members}
use Rattle.math_transforms.proofs.vanishing.with_roots_moved.Goals as goal

pub returns-clause-values : goal.returns-clause-values
returns-clause-values g c = λ r.
    let F = g.met.F in
    let R = ring_members g.F.Multiplicative.product g.F.Debug.debug_output g.F.Object.same g.F.Object.NEVER_REFUSES g.F.Additive.zero g.F.Additive.sum g.F.Additive.negative g.F.Ring.one in
    let q = c.args.coefficients in
    let new = c.dilate_rows.new.cells in
    let kept : length new ≡ length q.items = c.dilate_rows.auto.cells ∙ ap length c.deref_mut.ensures.value in
    let written : take q.len (new ++ drop (length new) q.items) ≡ new = take-written q.len q.items new q.ok.0 kept in
    let count : length q.items ≡ c.len-count.result = omega (arith, c.len-count.ensures, q.ok.0) in
    rw written
    (value-moved R F.Object.equality F.Additive.group F.Multiplicative.commutes F.Ring.ring (g.F.Field.inverse (g.F.FieldNTT.root c.args.lg)) c.in_ok-back.back c.len-count.result q.items new
    count (kept ∙ count) c.in_ok-back.ensures (rw c.deref_mut.ensures.value at c.in_ok-dilate_rows.ensures) r)
