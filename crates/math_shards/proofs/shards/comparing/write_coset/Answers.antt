use Rattle.std.proofs.Common.{◌≡◌, ◌∙◌, ◌+◌, ◌-◌, ◌*◌, ◌≤◌, ◌^◌, ◌++◌, length, drop, take, subst, refl, arith}
use Rattle.std.proofs.lemmas.List.{length-drop, length-take-le}
use Rattle.std.proofs.lemmas.Nat.{mul-le}
use Rattle.math_transforms.proofs.WrittenCells.{row-within}
use Rattle.math_shards.proofs.CosetCells.{HoldMultiples, begun-at, coset_columns, coset_valued, length-begun, multiple_at, multiples-first, multiples-more, zeros_over}
use Rattle.math_restoring.specs.CosetDivisions.{raised}
use Rattle.math_shards.proofs.RootPowers.{raised-more, raised-one}
use Rattle.math_shards.proofs.shards.comparing.write_coset.Goals as goal

pub loop-row-init : goal.loop-row-init
loop-row-init c = grind (arith, row-within, length-take-le, raised-one, multiples-first, begun-at)

pub loop-row-preserved : goal.loop-row-preserved
loop-row-preserved c =
    let cols = c.args.columns.strip.cols in
    let i = c.loop-row.row in
    let strip = c.args.columns.strip in
    let layout = strip.layout in
    let elements = c.args.columns.elements.now in
    let old = c.loop-row.cells in
    let new = c.write_multiples.new.cells in
    let n = i * cols + cols - i * cols in
    let at = i * layout.width + strip.from in
    let m = at + cols - at in
    let e : n ≡ cols = omega arith in
    let f : m ≡ cols = omega arith in
    let first : 0 * cols + cols ≤ 2 ^ c.args.lg * cols = row-within 0 (2 ^ c.args.lg) cols (omega (arith, layout.some, c.requires.points)) in
    let begun : length (c.copy_from_slice.new.self ++ drop cols c.args.cells.now) ≡ length c.args.cells.now =
    length-begun cols c.args.cells.now c.copy_from_slice.new.self (omega (arith, first, c.requires.size)) c.copy_from_slice.ensures.len in
    let inside : i * cols + cols ≤ 2 ^ c.args.lg * cols = row-within i (2 ^ c.args.lg) cols (omega (arith, c.requires.points)) in
    let within : i * cols + cols ≤ length old = omega (arith, inside, c.requires.size, begun, c.loop-row.auto.cells) in
    let long : length new ≡ n = c.write_multiples.auto.cells ∙ length-take-le n (drop (i * cols) old) (omega (arith, within, e, length-drop (i * cols) old)) in
    record {
      factor = c.mul-factor.ensures ∙ raised-more c.args.ratio c.loop-row.factor i c.loop-row.invariant.factor;
      rows = multiples-more elements layout.width strip.from cols c.args.ratio i n old new e within long c.loop-row.invariant.rows
          (λ k b. multiple_at elements new at m k c.loop-row.factor (raised c.args.ratio i) c.write_multiples.ensures (omega (arith, b, f)) (omega (arith, b, e, long)) c.loop-row.invariant.factor);
    }

pub returns : goal.returns
returns c =
    let strip = c.args.columns.strip in
    let layout = strip.layout in
    let elements = c.args.columns.elements.now in
    let cols = c.args.columns.strip.cols in
    let old = c.loop-row.cells in
    let a = layout.min * cols in
    let m = length old - a in
    let all : c.loop-row.row ≡ layout.min = omega arith in
    let inside : 0 * cols + cols ≤ 2 ^ c.args.lg * cols = row-within 0 (2 ^ c.args.lg) cols (omega (arith, layout.some, c.requires.points)) in
    let begun : length (c.copy_from_slice.new.self ++ drop cols c.args.cells.now) ≡ length c.args.cells.now =
    length-begun cols c.args.cells.now c.copy_from_slice.new.self (omega (arith, inside, c.requires.size)) c.copy_from_slice.ensures.len in
    let count : length old ≡ 2 ^ c.args.lg * cols = c.loop-row.auto.cells ∙ begun ∙ c.requires.size in
    let tall : a ≤ 2 ^ c.args.lg * cols = mul-le layout.min cols (2 ^ c.args.lg) cols c.requires.points (omega arith) in
    let up : a ≤ length old = omega (arith, tall, count) in
    let rows : HoldMultiples elements layout.width strip.from cols c.args.ratio layout.min old =
    subst (λ n. HoldMultiples elements layout.width strip.from cols c.args.ratio n old) all c.loop-row.invariant.rows in
    let cells = take a old ++ (c.fill.new.self ++ drop m (drop a old)) in
    let rest : length (take m (drop a old)) ≡ m = length-take-le m (drop a old) (omega (arith, length-drop a old)) in
    coset_valued elements layout.min layout.width strip.from cols c.args.lg c.args.ratio cells c.evaluate_rows.new.cells
    (coset_columns elements layout.min layout.width strip.from cols (2 ^ c.args.lg) m c.args.ratio old cells c.args.columns.whole strip.inside c.requires.points count refl rows
    (zeros_over a m (length (take m (drop a old))) old c.fill.new.self c.from.result up refl rest c.from.ensures (c.fill.ensures.after (λ y e. e))))
    c.in-Ok.ensures.values
