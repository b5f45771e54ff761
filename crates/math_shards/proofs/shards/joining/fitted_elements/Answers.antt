use Rattle.std.proofs.Common.{◌∙◌, List, map, subst, sym, arith}
use Rattle.std.specs.List.{All}
use Rattle.std.proofs.lemmas.List.{length-map}
use Rattle.math_fields.specs.declared.goldilocks.F.{F}
use Rattle.math_transforms.specs.DomainValues.{matrix_of}
use Rattle.math_shards.specs.Fitting.{AreDataOf, HasValuesOf}
use Rattle.math_shards.proofs.ChosenRows.{distinct-most}
use Rattle.math_shards.proofs.JoinedRows.{data_of_fit, rows_fit, values_of_fit}
use Rattle.math_shards.proofs.shards.joining.fitted_elements.Goals as goal

pub data_count-requires-clause-size : goal.data_count-requires-clause-size
data_count-requires-clause-size g c = rw c.deref.ensures.value (rw c.in-Some.is at c.in_ok-elements.ensures.some).size

pub have_values-requires-clause-size : goal.have_values-requires-clause-size
have_values-requires-clause-size g c = rw c.deref-2.ensures.value (rw c.in-Some.is at c.in_ok-elements.ensures.some).size

pub returns-then-rows-layout-2-clause-some : goal.returns-then-rows-layout-2-clause-some
returns-then-rows-layout-2-clause-some g c =
    let layout = c.args.layout in
    let of = rw c.in-Some.is at c.in_ok-elements.ensures.some in
    let found = rw c.in-Some-data_count.is at c.data_count.ensures.some in
    let are : AreDataOf found.0 layout.min c.in-Some.elements.items = subst (λ (xs : List F). AreDataOf found.0 layout.min xs) c.deref.ensures.value found.2 in (
      found.0,
      record { count = sym found.1; min = layout.min; elements = are },
      rows_fit g.R.Row.index g.R.Row.cells found.0 layout c.in-Some.elements.items c.args.rows.now c.requires of are (of.values c.if-rows-layout-2.true),
    )

pub returns-clause-some : goal.returns-clause-some
returns-clause-some g c =
    let layout = c.args.layout in
    let of = rw c.in-Some.is at c.in_ok-elements.ensures.some in
    let found = rw c.in-Some-data_count.is at c.data_count.ensures.some in
    let are : AreDataOf found.0 layout.min c.in-Some.elements.items = subst (λ (xs : List F). AreDataOf found.0 layout.min xs) c.deref.ensures.value found.2 in
    let values = subst (λ (xs : List F). All (λ (row : g.row.R.Denot). HasValuesOf layout.lg (matrix_of layout.min layout.width xs) (g.R.Row.index row) (g.R.Row.cells row)) c.args.rows.now)
    c.deref-2.ensures.value (c.in_ok-have_values.ensures.0 c.if-not-branch.false) in (
      found.0,
      record { count = sym found.1; min = layout.min; elements = are },
      rows_fit g.R.Row.index g.R.Row.cells found.0 layout c.in-Some.elements.items c.args.rows.now c.requires of are values,
    )

pub returns-then-rows-layout-clause-none : goal.returns-then-rows-layout-clause-none
returns-then-rows-layout-clause-none g c = λ words fit.
    omega (arith, fit.enough, distinct-most c.args.layout.total (map g.R.Row.index c.args.rows.now), length-map c.args.rows.now g.R.Row.index, c.if-rows-layout.true)

pub returns-in_default-clause-none : goal.returns-in_default-clause-none
returns-in_default-clause-none g c = λ words fit. let few = rw c.in_default.is at c.in_ok-elements.ensures.few in omega (arith, few, fit.enough)

pub returns-in_default-data_count-clause-none : goal.returns-in_default-data_count-clause-none
returns-in_default-data_count-clause-none g c = λ words fit.
    let of = rw c.in-Some.is at c.in_ok-elements.ensures.some in
    let none = rw c.in_default-data_count.is at c.data_count.ensures.none in
    none words (rw c.deref.ensures.value (data_of_fit g.R.Row.index g.R.Row.cells words c.args.layout c.in-Some.elements.items c.args.rows.now of c.requires fit))

pub returns-then-not-branch-clause-none : goal.returns-then-not-branch-clause-none
returns-then-not-branch-clause-none g c = grind (arith, values_of_fit)
