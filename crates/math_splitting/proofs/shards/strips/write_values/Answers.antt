use Rattle.std.proofs.Common.{◌≡◌, ◌*◌, ◌≤◌, ◌^◌, ℕ, drop, length-append, subst, sym, arith}
use Rattle.std.proofs.Math.Pow.{pow_mono}
use Rattle.std.proofs.lemmas.List.{length-drop, length-take-le}
use Rattle.std.proofs.lemmas.Nat.{mul-le}
use Rattle.math_splitting.specs.DataWords.{words_in}
use Rattle.math_splitting.specs.Strips.{IsStripOf}
use Rattle.math_splitting.proofs.StripColumns.{strip_valued}
use Rattle.math_splitting.proofs.shards.strips.write_values.Goals as goal

-- the first rows are among all
few_rows : (part lg n c k : ℕ) → part ≤ lg → n ≡ 2 ^ part → k ≡ 2 ^ lg * c → n * c ≤ k
few_rows part lg n c k l e f = grind (arith, pow_mono, mul-le)

pub overflow_mul-rows : goal.overflow_mul-rows
overflow_mul-rows g c = grind (arith, few_rows)

pub slice_bounds-write_strip-end : goal.slice_bounds-write_strip-end
slice_bounds-write_strip-end g c = few_rows _ _ _ _ _ c.part-part.ensures.within c.size_of-rows.ensures c.requires.size

pub slice_bounds-write_strip-end-2 : goal.slice_bounds-write_strip-end-2
slice_bounds-write_strip-end-2 g c = sym (length-take-le (c.size_of-rows.result * c.args.strip.cols) c.args.cells.now (few_rows _ _ _ _ _ c.part-part.ensures.within c.size_of-rows.ensures c.requires.size))

pub write_strip-requires-clause-size : goal.write_strip-requires-clause-size
write_strip-requires-clause-size g c = length-take-le (c.size_of-rows.result * c.args.strip.cols) c.args.cells.now (few_rows _ _ _ _ _ c.part-part.ensures.within c.size_of-rows.ensures c.requires.size)

pub returns : goal.returns
returns g c =
    let strip = c.args.strip in
    let layout = strip.layout in
    let within = few_rows _ _ _ _ _ c.part-part.ensures.within c.size_of-rows.ensures c.requires.size in
    let words = words_in g.W.Word.word c.args.source.now in
    let first = c.write_strip.new.cells in
    let rest = drop (c.size_of-rows.result * strip.cols) c.args.cells.now in
    strip_valued words layout.min layout.lg c.part-part.result strip.from strip.cols first rest c.evaluate_few.new.cells c.place_rows.new.cells
    (subst (λ (n : ℕ). IsStripOf words layout.min n strip.from strip.cols first) c.size_of-rows.ensures c.write_strip.ensures)
    (omega (arith, c.place_rows.auto.cells, c.evaluate_few.auto.cells, length-append first rest, c.write_strip.ensures.count, length-drop (c.size_of-rows.result * strip.cols) c.args.cells.now, within, c.requires.size))
    c.in-Ok.ensures.values c.place_rows.ensures
