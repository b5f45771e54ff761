use Rattle.std.proofs.Common.{◌≡◌, ◌↔◌, ◌∙◌, ℕ, ◌+◌, ◌-◌, ◌%◌, ◌<◌, ◌≤◌, length, drop, map, sym, ap, arith}
use Rattle.std.proofs.lemmas.Bool.{eq-eqb, eqb-true}
use Rattle.std.proofs.lemmas.List.{length-drop, length-map, take_all}
use Rattle.math_numbers.specs.Goldilocks.{P}
use Rattle.math_fields.specs.declared.goldilocks.F.{F}
use Rattle.math_fields.specs.Elements.{residue}
use Rattle.math_shards.proofs.RowWords.{element_at, equal-more, number_in}
use Rattle.math_shards.proofs.shards.rows.CellRowRow.has_values.Goals as goal

pub loop-i-preserved : goal.loop-i-preserved
loop-i-preserved g c =
    let number = g.C.Cell.number in
    let cells = c.args.self.now.cells.now in
    let words = map number cells in
    let values = c.args.values.now in
    let from = c.args.from in
    let i = c.loop-i.i in
    let m : ℕ = from + length values - from in
    let v : F = c.index-values-i.result in
    let w : F = c.from.result in
    let l : i < length values = c.loop-i-test.true in
    let many : from + length values ≤ length words = omega (arith, c.requires, length-map words residue) in
    let inside : from + i < length cells = omega (arith, l, many, length-map cells number) in
    let behind : i < length (drop from (map residue words)) = omega (arith, l, c.requires, length-drop from (map residue words)) in
    let at = c.from.ensures ∙ ap (λ n. n % P) (c.number.ensures ∙ number_in number cells from m i c.index-cells-i.result (omega (arith, l)) inside c.index-cells-i.is) in
    equal-more values (drop from (map residue words)) i v w c.loop-i.equal c.eq-equal.result l behind c.index-values-i.is
    (element_at words from m i w (omega (arith, l)) (omega (arith, l, many)) at) c.loop-i.invariant
    (λ e. eqb-true v.value w.value (sym c.eq-equal.ensures ∙ e), λ e. c.eq-equal.ensures ∙ eq-eqb v.value w.value e)

pub returns : goal.returns
returns g c = grind (arith, take_all)
