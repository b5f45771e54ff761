use Rattle.std.proofs.Common.{◌≡◌, ◌∙◌, ◌<◌, ◌≤◌, ◌^◌, List, length, take, sym, arith}
use Rattle.std.proofs.lemmas.List.{get_or_default, length-take-le}
use Rattle.math_fields.specs.declared.goldilocks.F.{F}
use Rattle.math_fields.specs.Elements.{shift_of, goldilocks}
use Rattle.math_transforms.specs.RootTrees.{AreValuesBelow}
use Rattle.math_transforms.proofs.PowersOfTwo.{power_of_two-rises}
use Rattle.math_restoring.proofs.CombinedColumns.{nought}
use Rattle.math_restoring.proofs.MadeDivisions.{divisor-nonzero, inverses_made}
use Rattle.math_restoring.proofs.PointsOfTrees.{forward-tree}
use Rattle.math_restoring.proofs.dividing.divided_inverses.Goals as goal
use Rattle.math_restoring.proofs.dividing.divided_inverses.Goals.{After-size_of}

within : (c : After-size_of) → c.size_of.result ≤ length c.fold.new.cells
within c =
    let fits : 2 ^ c.args.part ≤ 2 ^ c.args.lg = power_of_two-rises c.args.part c.args.lg c.requires.part in
    omega (arith, fits, c.fold.auto.cells, c.requires.size, c.size_of.ensures)

taken : (c : After-size_of) → length (take c.size_of.result c.fold.new.cells) ≡ 2 ^ c.args.part
taken c = length-take-le c.size_of.result c.fold.new.cells (within c) ∙ c.size_of.ensures

pub evaluate-requires-clause-points : goal.evaluate-requires-clause-points
evaluate-requires-clause-points c =
    let small : c.args.part ≤ 32 = omega (arith, c.requires.part, c.requires.domain) in
    record { domain = small; small = omega (arith, small); tree = forward-tree shift_of c.args.part c.args.roots.now small c.requires.tree; some = omega arith; within = omega (arith, c.requires.tree.count) }

pub slice_bounds-first-end : goal.slice_bounds-first-end
slice_bounds-first-end c = within c

pub slice_bounds-first-end-2 : goal.slice_bounds-first-end-2
slice_bounds-first-end-2 c = c.size_of.ensures ∙ sym (taken (goal.at.slice_bounds-first-end-2 c).After-size_of)

pub evaluate-requires-clause-size : goal.evaluate-requires-clause-size
evaluate-requires-clause-size c = taken (goal.at.evaluate-requires-clause-size c).After-size_of ∙ omega arith

pub returns-clause-count : goal.returns-clause-count
returns-clause-count c = c.in_ok-inverses.ensures.count ∙ c.evaluate.auto.cells ∙ taken (goal.at.returns-clause-count c).After-size_of

pub returns-clause-inverses : goal.returns-clause-inverses
returns-clause-inverses c =
    let part = c.args.part in
    let v = c.args.cells.now in
    let folded = c.fold.new.cells in
    let divisors : List F = c.evaluate.new.cells in
    let long : length divisors ≡ 2 ^ part = c.evaluate.auto.cells ∙ taken (goal.at.returns-clause-inverses c).After-size_of in
    let evaluated : AreValuesBelow goldilocks c.args.roots.now part 1 1 (take (2 ^ part) folded) divisors = rw c.size_of.ensures at c.evaluate.ensures in
    inverses_made c.args.lg part c.requires.some c.requires.domain c.requires.part c.args.points.now c.requires.points c.args.step v folded divisors c.args.roots.now c.requires.size
    c.requires.vanishes c.requires.step c.requires.tree c.fold.ensures evaluated c.in_ok-numerator.numerator c.in_ok-inverses.inverses.items c.in_ok-numerator.ensures.inverse
    (λ t l.
    c.in_ok-inverses.ensures.each
    (λ k d m. let inside : k < 2 ^ part = omega (arith, m, long) in
    rw (get_or_default divisors k d nought m)
    (divisor-nonzero c.args.lg part c.requires.some c.requires.domain c.requires.part c.args.points.now c.requires.points c.args.step v folded divisors c.args.roots.now c.requires.size
    c.requires.vanishes c.requires.step c.requires.tree c.fold.ensures evaluated k inside))
    t (omega (arith, l, long)))
