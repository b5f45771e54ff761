use Rattle.std.proofs.Common.{◌∙◌, refl, arith}
use Rattle.math_theory.proofs.domains.MergedPieces.{root-inverse}
use Rattle.math_transforms.proofs.CosetRows.{values-moved}
use Rattle.math_base.proofs.Members.{ring_members}
use Rattle.math_transforms.proofs.RootInverses.{inverse-tree_squares}
use Rattle.math_transforms.proofs.TreeEntries.{all-points}
use Rattle.math_transforms.proofs.transform.coset.move_rows.Goals as goal

pub interpolate_below-requires-clause-points : goal.interpolate_below-requires-clause-points
interpolate_below-requires-clause-points g c =
    let R = ring_members g.F.Multiplicative.product g.F.Debug.debug_output g.F.Object.same g.F.Object.NEVER_REFUSES g.F.Additive.zero g.F.Additive.sum g.F.Additive.negative g.F.Ring.one in
    let F = g.met.F in
    all-points R F.Object.equality F.Additive.group F.Multiplicative.commutes F.Ring.ring (λ l. g.F.Field.inverse (g.F.FieldNTT.root l)) g.F.Ring.one _ _ refl c.requires.domain.0 c.requires.domain.1
    (inverse-tree_squares F.Object.equality F.Additive.group F.Multiplicative.commutes F.Ring.ring F.Field.field F.FieldNTT.roots c.args.lg c.requires.domain.0) c.requires.interpolation

pub evaluate_below-requires-clause-points : goal.evaluate_below-requires-clause-points
evaluate_below-requires-clause-points g c =
    let R = ring_members g.F.Multiplicative.product g.F.Debug.debug_output g.F.Object.same g.F.Object.NEVER_REFUSES g.F.Additive.zero g.F.Additive.sum g.F.Additive.negative g.F.Ring.one in
    let F = g.met.F in
    all-points R F.Object.equality F.Additive.group F.Multiplicative.commutes F.Ring.ring g.F.FieldNTT.root g.F.FieldNTT.shift _ _ refl c.requires.domain.0 c.requires.domain.1
    (λ l within. F.FieldNTT.roots.square l (omega (arith, within, c.requires.domain.0))) c.requires.coset

pub returns-clause-moved : goal.returns-clause-moved
returns-clause-moved g c =
    let R = ring_members g.F.Multiplicative.product g.F.Debug.debug_output g.F.Object.same g.F.Object.NEVER_REFUSES g.F.Additive.zero g.F.Additive.sum g.F.Additive.negative g.F.Ring.one in
    let F = g.met.F in
    let order = F.FieldNTT.roots.order c.args.lg c.requires.domain.0 in
    let unit = root-inverse F.Object.equality F.Additive.group F.Multiplicative.commutes F.Ring.ring F.Field.field _ _ order in
    values-moved R F.Object.equality F.Additive.group F.Multiplicative.commutes F.Ring.ring F.Field.field g.F.FieldNTT.root (λ l. g.F.Field.inverse (g.F.FieldNTT.root l))
    g.F.FieldNTT.shift (g.F.FieldNTT.half g.F.Ring.one) c.args.lg c.args.cols c.args.interpolation.now c.args.coset.now c.args.cells.now c.interpolate_below.new.cells
    c.evaluate_below.new.cells order c.requires.some unit (F.FieldNTT.roots.half_twice g.F.Ring.one) c.requires.interpolation c.requires.coset
    (c.interpolate_below.auto.cells ∙ c.requires.size) c.in_ok-interpolate_below.ensures.values c.in_ok-evaluate_below.ensures.values
