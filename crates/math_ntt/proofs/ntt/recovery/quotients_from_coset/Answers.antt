use Rattle.std.proofs.Common.{◌≡◌, ◌∙◌, ℕ, ◌^◌, ◌<◌, List, length, refl, sym, subst, arith}
use Rattle.std.proofs.lemmas.List.{get_or_default}
use Rattle.math_theory.proofs.domains.MergedPieces.{root-inverse}
use Rattle.math_base.proofs.Members.{ring_members}
use Rattle.math_transforms.specs.RootTrees.{IsTreeOf}
use Rattle.math_transforms.proofs.RootInverses.{inverse-tree_squares}
use Rattle.math_transforms.proofs.TreeEntries.{all-points}
use Rattle.math_ntt.proofs.RecoverySteps.{nonzero-values, quotients-on_coset}
use Rattle.math_ntt.proofs.ntt.recovery.quotients_from_coset.Goals as goal

pub interpolate_below-requires-clause-points : goal.interpolate_below-requires-clause-points
interpolate_below-requires-clause-points g c =
    let R = ring_members g.F.Multiplicative.product g.F.Debug.debug_output g.F.Object.same g.F.Object.NEVER_REFUSES g.F.Additive.zero g.F.Additive.sum g.F.Additive.negative g.F.Ring.one in
    let F = g.met.F in
    let inverses : ℕ → g.row.F.Denot = λ l. g.F.Field.inverse (g.F.FieldNTT.root l) in
    let back = g.F.Field.inverse g.F.FieldNTT.shift in
    let tree = subst (λ (xs : List g.row.F.Denot). IsTreeOf R inverses back c.args.trees.now.lg xs) (sym c.deref-2.ensures.value) c.requires.trees.inverses in
    all-points R F.Object.equality F.Additive.group F.Multiplicative.commutes F.Ring.ring inverses back _ _ refl c.requires.trees.domain.domain c.requires.trees.domain.small
    (inverse-tree_squares F.Object.equality F.Additive.group F.Multiplicative.commutes F.Ring.ring F.Field.field F.FieldNTT.roots c.args.trees.now.lg c.requires.trees.domain.domain) tree

pub returns-clause-quotients : goal.returns-clause-quotients
returns-clause-quotients g c = λ p v e at_cells at_divisors nonzero.
    let F = g.met.F in
    let E = F.Object.equality in
    let G = F.Additive.group in
    let P = F.Multiplicative.commutes in
    let L = F.Ring.ring in
    let R = ring_members g.F.Multiplicative.product g.F.Debug.debug_output g.F.Object.same g.F.Object.NEVER_REFUSES g.F.Additive.zero g.F.Additive.sum g.F.Additive.negative g.F.Ring.one in
    let lg = c.args.trees.now.lg in
    let n = 2 ^ lg in
    let root = g.F.FieldNTT.root in
    let shift = g.F.FieldNTT.shift in
    let order = F.FieldNTT.roots.order lg c.requires.trees.domain.domain in
    let unit = root-inverse E G P L F.Field.field _ _ order in
    let divisors = c.args.divisors.now in
    let long : length divisors ≡ n = c.requires.divisors in
    let many : length c.in_ok-inverses.inverses.items ≡ n = c.in_ok-inverses.ensures.count ∙ long in
    let half = c.in_ok-numerator.ensures.inverse in
    let inverted = c.in_ok-inverses.ensures.each
    (λ k d l z. let b : k < n = omega (arith, l, long) in
    nonzero-values R E G P L F.Field.field root lg order shift c.in_ok-numerator.numerator v divisors e half at_divisors nonzero k b (rw (get_or_default divisors k d g.F.Additive.zero l) at z)) in
    quotients-on_coset R E G P L F.Field.field root lg order shift (λ l. g.F.Field.inverse (g.F.FieldNTT.root l)) (g.F.Field.inverse shift) c.in_ok-numerator.numerator c.args.cols
    c.args.trees.now.inverses.items p v c.args.cells.now divisors c.in_ok-inverses.inverses.items c.multiply_rows.new.cells c.interpolate_below.new.cells c.requires.trees.some e unit
    (F.Field.field.inverts shift F.FieldNTT.roots.shift_is_not_zero) c.requires.trees.inverses half at_divisors at_cells (λ i l. inverted i (omega (arith, l, long)))
    (rw (c.deref.ensures.value, many) at c.in_ok-multiply_rows.ensures.products) (rw c.deref-2.ensures.value at c.in_ok-interpolate_below.ensures.values)
