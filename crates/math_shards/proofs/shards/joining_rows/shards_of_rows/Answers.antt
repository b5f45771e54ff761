use Rattle.std.proofs.Common.{◌≡◌, ◌∙◌, ◌*◌, ◌++◌, ℕ, List, drop, length, map, refl, sym, ap, take, arith}
use Rattle.std.proofs.lemmas.List.{drop-map, length-map, take-map}
use Rattle.math_values.specs.Values.{elements}
use Rattle.math_shards.proofs.WordShards.{shards_more, shards_all}
use Rattle.math_shards.proofs.shards.joining_rows.shards_of_rows.Goals as goal

pub loop-i-preserved : goal.loop-i-preserved
loop-i-preserved g c =
    let cols = c.args.cols in
    let number = g.C.Cell.number in
    let cells = c.args.cells.now in
    let i = c.loop-i.i in
    let words : List ℕ = map number c.cell_row-row.result.cells.now in
    let here = ap (map number) c.cell_row-row.ensures.cells ∙ sym (ap (take cols) (drop-map number (i * cols) cells) ∙ take-map number cols (drop (i * cols) cells)) in
    let row = c.in_ok-append_to.ensures ∙ ap (λ xs. xs ++ elements words) c.in_ok-cells.ensures.items ∙ ap elements here in
    rw c.in_ok-push.ensures.items
    (shards_more c.args.min c.args.total c.args.indices.now (map number cells) cols i c.loop-i.out.items _ (length-map cells number ∙ c.requires.count) c.loop-i-test.true c.requires.below
    refl refl refl row c.loop-i.invariant)

pub returns : goal.returns
returns g c =
    let all : c.loop-i.i ≡ length c.args.indices.now = omega arith in
    shards_all c.args.min c.args.total c.args.indices.now (map g.C.Cell.number c.args.cells.now) c.args.cols c.loop-i.i c.loop-i.out.items
    (length-map c.args.cells.now g.C.Cell.number ∙ c.requires.count) (omega (arith, all)) c.loop-i.invariant all
