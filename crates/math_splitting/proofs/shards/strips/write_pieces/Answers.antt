use Rattle.std.proofs.Common.{◌≡◌, ◌∙◌, ℕ, ◌+◌, ◌-◌, ◌<◌, length, length-append, map, take, drop, get_or, refl, ap, ap₂, arith}
use Rattle.std.proofs.lemmas.List.{get_or_append_left, get_or-take, length-drop, length-take-le, take-map}
use Rattle.math_fields.specs.Elements.{number}
use Rattle.math_splitting.specs.Strips.{piece_of}
use Rattle.math_splitting.proofs.SameCells.{nought}
use Rattle.math_splitting.proofs.SourceWords.{part-mapped}
use Rattle.math_splitting.proofs.shards.strips.write_pieces.Goals as goal

pub returns : goal.returns
returns g c = λ k b.
    let word = g.W.Word.word in
    let words = c.args.words.now in
    let cells = c.loop-k.cells in
    let n : ℕ = length words - 1 in
    let next = take n (drop 1 words) in
    let m : ℕ = length next in
    let long : m ≡ n = length-take-le n (drop 1 words) (omega (arith, length-drop 1 words)) in
    let many : length cells ≡ n = omega (arith, c.loop-k.auto.cells, length-take-le m c.args.cells.now (omega (arith, long, c.requires.words)), long) in
    let inside : k < n = omega (arith, b, length-append cells (drop m c.args.cells.now), length-drop m c.args.cells.now, many, long, c.requires.words) in
    let front : map word (take m words) ≡ take m (map word words) = rw (take-map word m words) refl in
    let before : get_or (map word (take m words)) k 0 ≡ get_or (map word words) k 0 = ap (λ xs. get_or xs k 0) front ∙ get_or-take m (map word words) k 0 (omega (arith, inside, long)) in
    let place : 1 + k ≡ k + 1 = omega arith in
    let after : get_or (map word next) k 0 ≡ get_or (map word words) (k + 1) 0 = part-mapped word words 1 n k inside ∙ ap (λ p. get_or (map word words) p 0) place in
    ap number (get_or_append_left cells (drop m c.args.cells.now) nought k (omega (arith, inside, many)))
    ∙ c.loop-k.invariant k (omega (arith, inside, long, c.loop-k-test.false))
    ∙ ap₂ (λ x y. number (piece_of x y (c.args.taken + k))) before after
