use Rattle.std.proofs.Common.{◌≡◌, ◌∙◌, ◌+◌, ◌-◌, ◌*◌, ◌<◌, ◌≤◌, ◌^◌, length, take, drop, ap, arith}
use Rattle.std.proofs.lemmas.List.{length-drop, length-take-le}
use Rattle.math_fields.specs.Elements.{product, number}
use Rattle.math_transforms.proofs.WrittenCells.{row-within}
use Rattle.math_restoring.specs.Restorers.{factors_of, lg_of, places_of}
use Rattle.math_restoring.proofs.PlacedRows.{placed-more}
use Rattle.math_restoring.proofs.PlacesOfRestorers.{places-count, places-distinct}
use Rattle.row_interpolation.proofs.by_transforms.Transforms.place_rows.Goals as goal

pub loop-t-preserved : goal.loop-t-preserved
loop-t-preserved g c =
    let self = c.args.self.now in
    let r = self.restorer in
    let element = g.R.ElementRows.element c.args.rows.now in
    let from = c.args.from in
    let cols = c.args.cols in
    let t = c.loop-t.t in
    let strip = c.loop-t.strip in
    let at = c.place.result * cols in
    let n = at + cols - at in
    let e : n ≡ cols = omega arith in
    let here : t < length (places_of r) = omega (arith, c.loop-t-test.true, self.as_many, places-count r) in
    let inside : at + cols ≤ length strip =
    omega (arith, row-within c.place.result (2 ^ lg_of r) cols c.place.ensures.inside, ap (λ m. 2 ^ m * cols) self.rows_in_room, c.requires.strip, c.loop-t.auto.strip) in
    let before : length (take n (drop at strip)) ≡ n = length-take-le n (drop at strip) (omega (arith, e, inside, length-drop at strip)) in
    placed-more (2 ^ lg_of r) (places_of r) (factors_of r) cols (λ s k. element s (from + k)) t c.place.result n strip c.write_products.new.cells e
    c.place.ensures.place (places-distinct r) here inside (c.write_products.auto.cells ∙ before)
    (λ k b. c.write_products.ensures k (omega (arith, b, e, before)) ∙ ap (λ y. number (product (element t (from + k)) y)) c.factor-factor.ensures) c.loop-t.invariant
