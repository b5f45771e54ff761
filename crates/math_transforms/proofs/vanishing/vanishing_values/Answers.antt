use Rattle.std.proofs.Common.{◌≡◌, ◌∙◌, ◌++◌, ◌^◌, length, take, drop, get_or, ap, sym, pow_pos, arith}
use Rattle.std.proofs.lemmas.List.{get_or_default}
use Rattle.math_theory.proofs.polynomials.BuiltPolynomials.{value-at_zero-same}
use Rattle.math_theory.proofs.domains.BuiltVanishing.{IsVanishing-from_VanishesAt-same}
use Rattle.math_base.proofs.WholeWrites.{take-written}
use Rattle.math_transforms.proofs.DomainSteps.{values-one}
use Rattle.math_base.proofs.Members.{ring_members}
use Rattle.math_transforms.proofs.vanishing.vanishing_values.Goals as goal

pub returns : goal.returns
returns g c =
    let F = g.met.F in
    let E = F.Object.equality in
    let G = F.Additive.group in
    let P = F.Multiplicative.commutes in
    let R = F.Ring.ring in
    let ring = ring_members g.F.Multiplicative.product g.F.Debug.debug_output g.F.Object.same g.F.Object.NEVER_REFUSES g.F.Additive.zero g.F.Additive.sum g.F.Additive.negative g.F.Ring.one in
    let n = 2 ^ c.args.lg in
    let root = g.F.FieldNTT.root c.args.lg in
    let zero = g.F.Additive.zero in
    let p = c.in_ok-values.values in
    let new = c.evaluate_rows.new.cells in
    let long : length p.items ≡ n = omega (arith, c.in_ok-values.ensures.length, p.ok.0) in
    let kept : length new ≡ length p.items = c.evaluate_rows.auto.cells ∙ ap length c.deref_mut.ensures.value in
    let written : take p.len (new ++ drop (length new) p.items) ≡ new = take-written p.len p.items new p.ok.0 kept in
    let values = values-one ring E G P R root n p.items new long (rw c.deref_mut.ensures.value at c.in_ok-evaluate_rows.ensures.values) in
    let first : c.index.result.now ≡ get_or p.items 0 zero = c.index.ensures ∙ get_or_default p.items 0 c.index.result.now zero (omega (arith, long, pow_pos c.args.lg)) in
    rw written
    (IsVanishing-from_VanishesAt-same E G P R root c.in_ok-at_zero.at_zero c.args.points.now _ new (kept ∙ long ∙ sym c.requires.points) c.in_ok-values.ensures.vanishes
    (E.transitive _ _ _ (rw first at c.in_ok-at_zero.ensures.ok) (E.symmetric _ _ (value-at_zero-same E G P R p.items)))
    (λ i l. values i (omega (arith, l, c.requires.points))))
