use Rattle.std.proofs.Common.{◌∙◌, false, sym, arith}
use Rattle.std.proofs.lemmas.List.{get_or_default}
use Rattle.systematic_shards.proofs.Masks.{least-past, least-place}
use Rattle.systematic_shards.proofs.mask.least_mask.Goals as goal

pub returns-then-not-index-clause-least : goal.returns-then-not-index-clause-least
returns-then-not-index-clause-least g c =
    let taken = c.in_ok-taken.taken.items in
    let m = c.loop-mask.mask in
    least-place c.args.count (g.M.WordMemory.word c.args.cells.now) taken c.in_ok-taken.ensures m c.loop-mask-test.true
    (get_or_default taken m false c.index.result.now (omega (arith, c.loop-mask-test.true, c.in_ok-taken.ensures.size)) ∙ sym c.index.ensures ∙ c.if-not-index.true)
    c.loop-mask.invariant

pub returns-clause-least : goal.returns-clause-least
returns-clause-least g c =
    least-past c.args.count (g.M.WordMemory.word c.args.cells.now) c.in_ok-taken.taken.items c.in_ok-taken.ensures
    (λ j l. c.loop-mask.invariant j (omega (arith, l, c.loop-mask-test.false)))
