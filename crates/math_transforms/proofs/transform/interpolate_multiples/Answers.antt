use Rattle.std.proofs.Common.{refl, arith}
use Rattle.math_theory.proofs.domains.MergedPieces.{root-inverse}
use Rattle.math_base.proofs.Members.{ring_members}
use Rattle.math_transforms.proofs.RootInverses.{inverse-tree_squares}
use Rattle.math_transforms.proofs.TreeEntries.{all-points}
use Rattle.math_transforms.proofs.TreeValues.{multiples-natural, multiples-none}
use Rattle.math_transforms.proofs.transform.interpolate_multiples.Goals as goal

pub interpolate_below-requires-clause-points : goal.interpolate_below-requires-clause-points
interpolate_below-requires-clause-points g c =
    let R = ring_members g.F.Multiplicative.product g.F.Debug.debug_output g.F.Object.same g.F.Object.NEVER_REFUSES g.F.Additive.zero g.F.Additive.sum g.F.Additive.negative g.F.Ring.one in
    let F = g.met.F in
    all-points R F.Object.equality F.Additive.group F.Multiplicative.commutes F.Ring.ring (λ l. g.F.Field.inverse (g.F.FieldNTT.root l)) g.F.Ring.one _ _ refl c.requires.domain.0 c.requires.domain.1
    (inverse-tree_squares F.Object.equality F.Additive.group F.Multiplicative.commutes F.Ring.ring F.Field.field F.FieldNTT.roots c.args.lg c.requires.domain.0) c.requires.table

pub returns-then-lg-eq0-clause-values : goal.returns-then-lg-eq0-clause-values
returns-then-lg-eq0-clause-values g c =
    let R = ring_members g.F.Multiplicative.product g.F.Debug.debug_output g.F.Object.same g.F.Object.NEVER_REFUSES g.F.Additive.zero g.F.Additive.sum g.F.Additive.negative g.F.Ring.one in
    let F = g.met.F in
    multiples-none R F.Object.equality F.Additive.group F.Multiplicative.commutes F.Ring.ring F.Field.field g.F.FieldNTT.root c.args.lg c.args.cols
    (F.FieldNTT.roots.order c.args.lg c.requires.domain.0) c.args.cells.now c.if-lg-eq0.true

pub returns-clause-values : goal.returns-clause-values
returns-clause-values g c =
    let R = ring_members g.F.Multiplicative.product g.F.Debug.debug_output g.F.Object.same g.F.Object.NEVER_REFUSES g.F.Additive.zero g.F.Additive.sum g.F.Additive.negative g.F.Ring.one in
    let F = g.met.F in
    let order = F.FieldNTT.roots.order c.args.lg c.requires.domain.0 in
    let unit = root-inverse F.Object.equality F.Additive.group F.Multiplicative.commutes F.Ring.ring F.Field.field _ _ order in
    multiples-natural R F.Object.equality F.Additive.group F.Multiplicative.commutes F.Ring.ring F.Field.field g.F.FieldNTT.root c.args.lg c.args.cols order
    (λ l. g.F.Field.inverse (g.F.FieldNTT.root l)) c.args.table.now c.args.cells.now c.reverse_rows.new.cells c.interpolate_below.new.cells (omega arith) unit c.requires.table
    c.reverse_rows.ensures c.in_ok-interpolate_below.ensures.values
