use Rattle.std.proofs.Common.{◌≡◌, ◌<◌, true, false, length, get_or, refl, ◌∙◌, arith}
use Rattle.std.proofs.lemmas.Bool.{false≢true}
use Rattle.std.proofs.lemmas.List.{length-set}
use Rattle.std.proofs.lemmas.Option.{get_or_from_slice_get}
use Rattle.goldmath_commands.proofs.MarkedRows.{marks_more, distinct_more, distinct_at}
use Rattle.goldmath_commands.proofs.recovery.are_distinct.Goals as goal

pub returns-then-get : goal.returns-then-get
returns-then-get c =
    let rows = c.args.rows.now in
    let seen : get_or c.loop-row.seen (get_or rows c.loop-row.row-index 0) false ≡ true =
    get_or_from_slice_get c.loop-row.seen (get_or rows c.loop-row.row-index 0) c.get.result false c.get.ensures ∙ c.if-get.true in
    let found = c.loop-row.invariant.marks.only (get_or rows c.loop-row.row-index 0) seen in
    (λ e. absurd (false≢true e), λ apart. absurd (apart found.0 c.loop-row.row-index 0 found.1 c.loop-row-test.true found.2))

pub loop-row-preserved : goal.loop-row-preserved
loop-row-preserved c =
    let rows = c.args.rows.now in
    let index = c.loop-row.row-index in
    let new : get_or c.loop-row.seen (get_or rows index 0) false ≡ false = get_or_from_slice_get c.loop-row.seen (get_or rows index 0) c.get.result false c.get.ensures ∙ c.if-get.false in
    let inside : get_or rows index 0 < length c.loop-row.seen = omega (arith, c.requires.below index 0 c.loop-row-test.true, c.loop-row.invariant.size) in
    rw c.set_non_vanishing.ensures record {
      size = length-set c.loop-row.seen (get_or rows index 0) true ∙ c.loop-row.invariant.size;
      distinct = distinct_more rows index c.loop-row.seen c.loop-row.invariant.marks new c.loop-row.invariant.distinct;
      marks = marks_more rows index c.loop-row.seen c.loop-row.invariant.marks inside;
    }

pub returns : goal.returns
returns c = (λ _. λ i j d l m e. c.loop-row.invariant.distinct i j l (omega arith) (distinct_at c.args.rows.now i j d l m e), λ _. refl)
