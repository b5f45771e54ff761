use Rattle.std.proofs.Common.{◌≡◌, ◌∙◌, ◌*◌, ◌^◌, ◌<◌, length, get_or, ap, sym, arith}
use Rattle.std.proofs.lemmas.Nat.{mul-add-lt}
use Rattle.std.specs.List.{All}
use Rattle.math_theory.proofs.domains.CarriedDomains.{powers_apart-same}
use Rattle.math_base.specs.Members.{RingOf}
use Rattle.math_base.proofs.Members.{ring_members}
use Rattle.math_transforms.proofs.PresentIndices.{length-places}
use Rattle.math_transforms.specs.Matrices.{MatrixOf}
use Rattle.math_ntt.specs.Evaluations.{evaluations_of}
use Rattle.math_ntt.proofs.NarrowedColumns.{StandFor, stands, rows-below, distinct, narrowed-some, narrowed-none}
use Rattle.math_ntt.proofs.ntt.correction.agreeing_rows.Given as given
use Rattle.math_ntt.proofs.ntt.correction.agreeing_rows.Goals as goal
use Rattle.math_ntt.proofs.ntt.correction.agreeing_rows.Goals.{In_ok-rows, In_ok-values}

abbrev ring : (g : given.Over) → RingOf g.row.F.Denot
ring g = ring_members g.F.Multiplicative.product g.F.Debug.debug_output g.F.Object.same g.F.Object.NEVER_REFUSES g.F.Additive.zero g.F.Additive.sum g.F.Additive.negative g.F.Ring.one

below : (g : given.Over) (c : In_ok-rows g) → All (λ row. row < 2 ^ c.args.lg) c.in_ok-rows.rows.items
below g c = rows-below c.args.filled.now (2 ^ c.args.lg) c.in_ok-rows.rows.items c.in_ok-rows.ensures c.requires.marks

module _ (g : given.Over) (c : In_ok-values g) where
  -- the points and the values that were copied stand for the column
  stand : StandFor (ring g) g.met.F.Object.equality g.met.F.Additive.group g.met.F.Multiplicative.commutes g.met.F.Ring.ring (g.F.FieldNTT.root c.args.lg)
      (evaluations_of c.args.matrix.now c.args.filled.now) c.args.column c.in_ok-points.points.items c.in_ok-values.values.items
  stand =
      stands (ring g) g.met.F.Object.equality g.met.F.Additive.group g.met.F.Multiplicative.commutes g.met.F.Ring.ring (g.F.FieldNTT.root c.args.lg) c.args.matrix.now c.args.filled.now c.args.column
      (2 ^ c.args.lg) c.matrix.inside.cols c.matrix.inside.cells.items c.in_ok-powers.powers.items c.in_ok-points.points.items c.in_ok-values.values.items c.in_ok-rows.rows.items
      (ap (λ (m : MatrixOf g.row.F.Denot). m.cols) c.matrix.view_is) (ap (λ (m : MatrixOf g.row.F.Denot). m.cells) c.matrix.view_is)
      c.in_ok-rows.ensures c.requires.marks c.in_ok-powers.ensures.powers
      (c.in_ok-points.ensures.count ∙ ap length c.deref-2.ensures.value) (c.in_ok-values.ensures.count ∙ ap length c.deref-4.ensures.value)
      (rw (c.deref.ensures.value, c.deref-2.ensures.value) at c.in_ok-points.ensures.cells) (rw (c.deref-3.ensures.value, c.deref-4.ensures.value) at c.in_ok-values.ensures.cells)

pub cells_at-requires : goal.cells_at-requires
cells_at-requires g c =
    rw (c.deref.ensures.value, c.deref-2.ensures.value)
    (λ k d l. let b : get_or c.in_ok-rows.rows.items k d < 2 ^ c.args.lg = below g (goal.at.cells_at-requires g c).In_ok-rows k d l in
    omega (arith, b, c.in_ok-powers.ensures.count))

pub cells_at-requires-2 : goal.cells_at-requires-2
cells_at-requires-2 g c =
    rw (c.deref-3.ensures.value, c.deref-4.ensures.value)
    (λ k d l. let b : get_or c.in_ok-rows.rows.items k d < 2 ^ c.args.lg = below g (goal.at.cells_at-requires-2 g c).In_ok-rows k d l in
    let rows : c.matrix.inside.rows ≡ 2 ^ c.args.lg = ap (λ (m : MatrixOf g.row.F.Denot). m.rows) c.matrix.view_is ∙ c.requires.rows in
    let cols : c.matrix.inside.cols ≡ c.args.matrix.now.cols = ap (λ (m : MatrixOf g.row.F.Denot). m.cols) c.matrix.view_is in
    let place = mul-add-lt (get_or c.in_ok-rows.rows.items k d) c.matrix.inside.cols c.args.column (2 ^ c.args.lg) b (omega (arith, cols, c.requires.column)) in
    let size : length c.matrix.inside.cells.items ≡ c.matrix.inside.cols * 2 ^ c.args.lg = c.matrix.invariant ∙ (rw rows (omega arith)) in
    omega (arith, place, size))

pub decode-requires-clause-apart : goal.decode-requires-clause-apart
decode-requires-clause-apart g c =
    let F = g.met.F in
    rw c.deref-5.ensures.value
    (distinct _ F.Object.equality F.Additive.group F.Multiplicative.commutes F.Ring.ring (g.F.FieldNTT.root c.args.lg) _ c.args.column _ _ (stand g (goal.at.decode-requires-clause-apart g c).In_ok-values)
    (2 ^ c.args.lg) c.requires.marks
    (powers_apart-same F.Object.equality F.Additive.group F.Multiplicative.commutes F.Ring.ring _ (2 ^ c.args.lg) (F.FieldNTT.roots.order c.args.lg c.requires.lg.domain)))

pub decode-requires-clause-count : goal.decode-requires-clause-count
decode-requires-clause-count g c = grind (arith, length-places)

pub returns-in_default-clause-none : goal.returns-in_default-clause-none
returns-in_default-clause-none g c =
    let F = g.met.F in
    narrowed-none _ F.Object.equality F.Additive.group F.Multiplicative.commutes F.Ring.ring (g.F.FieldNTT.root c.args.lg) _ c.args.column _ _ (stand g (goal.at.returns-in_default-clause-none g c).In_ok-values)
    c.args.count (rw (c.in_default.is, c.deref-5.ensures.value, c.deref-6.ensures.value) at c.in_ok-decoded.ensures.none)

pub rows_left-requires-clause-rows : goal.rows_left-requires-clause-rows
rows_left-requires-clause-rows g c = rw c.deref-7.ensures.value (below g (goal.at.rows_left-requires-clause-rows g c).In_ok-rows)

pub returns-clause-some : goal.returns-clause-some
returns-clause-some g c =
    let F = g.met.F in
    narrowed-some _ F.Object.equality F.Additive.group F.Multiplicative.commutes F.Ring.ring (g.F.FieldNTT.root c.args.lg) _ c.args.column _ _ (stand g (goal.at.returns-clause-some g c).In_ok-values)
    c.args.count c.in-Some.decoded.coefficients.items c.in-Some.decoded.wrong.items c.in_ok-left.left
    (c.in_ok-left.ensures.size ∙ sym c.requires.marks) (rw (c.in-Some.is, c.deref-5.ensures.value, c.deref-6.ensures.value) at c.in_ok-decoded.ensures.found)
    (rw (c.deref-7.ensures.value, c.deref-8.ensures.value, c.in_ok-rows.ensures) at c.in_ok-left.ensures.filled)
