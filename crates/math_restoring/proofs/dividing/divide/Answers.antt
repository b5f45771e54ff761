use Rattle.std.proofs.Common.{rules, ◌≡◌, ◌∙◌, ◌-◌, ◌*◌, ◌≤◌, ◌^◌, length, take, drop, sym, ap, arith}
use Rattle.std.proofs.lemmas.List.{length-take-le}
use Rattle.math_fields.specs.Elements.{inverse, residue, shift_of}
use Rattle.math_restoring.proofs.BlockColumns.{column-before, rows-within}
use Rattle.math_restoring.proofs.DividedColumns.{half-fits, whole-fits}
use Rattle.math_restoring.proofs.PointsOfTrees.{backward-tree, forward-tree}
use Rattle.math_restoring.proofs.dividing.divide.Goals as goal
use Rattle.math_restoring.proofs.dividing.divide.Goals.{After-size_of-2, then-part-lg, else-part-lg}

-- the first rows are within the cells
within : (c : After-size_of-2) → c.size_of-2.result * c.args.cols ≤ length c.if-part-lg.cells
within c =
    rows-within c.args.division.now.part c.args.division.now.lg c.size_of-2.result c.args.cols (length c.if-part-lg.cells) c.requires.tables.part c.size_of-2.ensures
    (c.if-part-lg.auto.cells ∙ c.requires.size)

-- so many of them are taken
taken : (c : After-size_of-2) → length (take (c.size_of-2.result * c.args.cols) c.if-part-lg.cells) ≡ 2 ^ c.args.division.now.part * c.args.cols
taken c = length-take-le _ _ (within c) ∙ ap (λ n. n * c.args.cols) c.size_of-2.ensures

pub overflow_mul-first : goal.overflow_mul-first
overflow_mul-first c = let fits = within c in search rules

pub interpolate-requires-clause-points : goal.interpolate-requires-clause-points
interpolate-requires-clause-points c =
    let d = c.args.division.now in
    let D = c.requires.tables in
    rw c.deref.ensures.value
    (record { domain = D.domain; small = omega (arith, D.domain); tree = backward-tree (residue 1) d.lg d.domain.items D.domain D.domain_inverses; some = omega arith; within = omega (arith, D.domain_inverses.count) })

pub evaluate-requires-clause-points : goal.evaluate-requires-clause-points
evaluate-requires-clause-points c =
    let d = c.args.division.now in
    let D = c.requires.tables in
    let small : d.part ≤ 32 = omega (arith, D.part, D.domain) in
    rw c.deref-2.ensures.value
    (record { domain = small; small = omega (arith, small); tree = forward-tree shift_of d.part d.coset.items small D.coset_tree; some = omega arith; within = omega (arith, D.coset_tree.count) })

pub interpolate-requires-2-clause-points : goal.interpolate-requires-2-clause-points
interpolate-requires-2-clause-points c =
    let d = c.args.division.now in
    let D = c.requires.tables in
    let small : d.part ≤ 32 = omega (arith, D.part, D.domain) in
    rw c.deref-4.ensures.value
    (record { domain = small; small = omega (arith, small); tree = backward-tree (inverse shift_of) d.part d.coset_inverses.items small D.coset_inverses; some = omega arith; within = omega (arith, D.coset_inverses.count) })

pub slice_bounds-first-end : goal.slice_bounds-first-end
slice_bounds-first-end c = within c

pub slice_bounds-first-end-2 : goal.slice_bounds-first-end-2
slice_bounds-first-end-2 c = sym (length-take-le _ _ (within (goal.at.slice_bounds-first-end-2 c).After-size_of-2))

pub evaluate-requires-clause-size : goal.evaluate-requires-clause-size
evaluate-requires-clause-size c = taken (goal.at.evaluate-requires-clause-size c).After-size_of-2

pub multiply_rows-requires : goal.multiply_rows-requires
multiply_rows-requires c =
    c.evaluate.auto.cells ∙ taken (goal.at.multiply_rows-requires c).After-size_of-2
    ∙ ap (λ n. n * c.args.cols) (sym (ap length c.deref-3.ensures.value ∙ c.requires.tables.inverse_count))

pub interpolate-requires-2-clause-size : goal.interpolate-requires-2-clause-size
interpolate-requires-2-clause-size c =
    c.multiply_rows.auto.cells ∙ c.evaluate.auto.cells ∙ taken (goal.at.interpolate-requires-2-clause-size c).After-size_of-2

pub returns : goal.returns
returns c = λ D k cells l count times.
    let d = c.args.division.now in
    let cols = c.args.cols in
    let n = 2 ^ d.part * cols in
    let first = take n c.if-part-lg.cells in
    let final = c.interpolate-2.new.cells in
    let rest = drop (c.size_of-2.result * cols) c.if-part-lg.cells in
    let long : length final ≡ n = c.interpolate-2.auto.cells ∙ c.multiply_rows.auto.cells ∙ c.evaluate.auto.cells ∙ taken (goal.at.returns c).After-size_of-2 in
    let values = rw (c.size_of-2.ensures, c.deref-2.ensures.value) at c.evaluate.ensures in
    let scaled = rw c.deref-3.ensures.value at c.in-Ok.ensures.products in
    let found = rw c.deref-4.ensures.value at c.interpolate-2.ensures in
    rw (column-before (2 ^ d.part) cols k final rest l (omega (arith, long)))
    (elim c.if-part-lg.branch [
      | then-part-lg w ↦
          whole-fits d D cols k l cells c.args.cells.now first c.evaluate.new.cells c.multiply_rows.new.cells final count times values scaled found w.interpolate.new.cells
          w.if-part-lg.true (rw w.deref.ensures.value at w.interpolate.ensures) (ap (take n) w.cells-is)
      | else-part-lg w ↦
          half-fits d D cols k l cells c.args.cells.now first c.evaluate.new.cells c.multiply_rows.new.cells final count times values scaled found w.write_sums.new.cells w.fold.new.cells
          (drop (w.size_of.result * cols) w.write_sums.new.cells) (omega (arith, w.if-part-lg.false, D.tables.part)) w.write_sums.ensures
          (rw w.size_of.ensures at w.fold.ensures)
          (w.fold.auto.cells ∙ length-take-le _ _ (rows-within (d.lg - 1) d.lg w.size_of.result cols (length w.write_sums.new.cells) (omega arith) w.size_of.ensures (w.write_sums.auto.cells ∙ c.requires.size)) ∙ ap (λ n. n * cols) w.size_of.ensures) (ap (take n) w.cells-is)
    ])
