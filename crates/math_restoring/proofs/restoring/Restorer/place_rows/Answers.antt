use Rattle.std.proofs.Common.{◌≡◌, ◌∙◌, ◌+◌, ◌-◌, ◌*◌, ◌<◌, ◌≤◌, ◌^◌, length, get_or, take, drop, ap₂, arith}
use Rattle.std.proofs.lemmas.List.{length-drop, length-take-le}
use Rattle.math_fields.specs.Elements.{product, number}
use Rattle.math_transforms.proofs.WrittenCells.{row-within}
use Rattle.math_transforms.proofs.WrittenRows.{part-read}
use Rattle.math_restoring.proofs.CombinedColumns.{nought}
use Rattle.math_restoring.proofs.PlacedRows.{placed-more}
use Rattle.math_restoring.proofs.PlacesOfRestorers.{places-distinct}
use Rattle.math_restoring.proofs.restoring.Restorer.place_rows.Goals as goal

pub loop-t-preserved : goal.loop-t-preserved
loop-t-preserved c =
    let r = c.args.self.now in
    let t = c.loop-t.t in
    let cells = c.args.cells.now in
    let room = c.loop-t.room in
    let cols = c.args.cols in
    let width = c.args.width in
    let at = t * width + c.args.from in
    let p = c.place.result in
    let place = p * cols in
    let n = place + cols - place in
    let m = at + cols - at in
    let e : n ≡ cols = omega arith in
    let q : m ≡ cols = omega arith in
    let here : t < length r.places.items = omega (arith, c.loop-t-test.true, r.are_places.count) in
    let inside : place + cols ≤ length room = omega (arith, row-within p (2 ^ r.division.lg) cols c.place.ensures.inside, c.requires.room, c.loop-t.auto.room) in
    let there : at + cols ≤ length cells = omega (arith, row-within t (length r.indices.items) width (omega (arith, c.loop-t-test.true)), c.requires.within, c.requires.size) in
    let before : length (take n (drop place room)) ≡ n = length-take-le n (drop place room) (omega (arith, e, inside, length-drop place room)) in
    placed-more (2 ^ r.division.lg) r.places.items r.division.factors.items cols (λ s k. get_or cells (s * width + c.args.from + k) nought) t p n room c.write_products.new.room e
    c.place.ensures.place (places-distinct r) here inside (c.write_products.auto.room ∙ before)
    (λ k b. c.write_products.ensures k (omega (arith, b, e, before))
    ∙ ap₂ (λ x y. number (product x y)) (part-read nought cells at m k (omega (arith, b, q))) c.factor.ensures) c.loop-t.invariant
