use Rattle.std.proofs.Common.{sym, subst, ◌∙◌}
use Rattle.math_codec.specs.OrderedMaps.{KeysDiffer, ValuesDiffer, HasFirstOfEachKey, IsOrderByValue, RepeatsKeyFirst, RepeatsValueFirst}
use Rattle.math_codec.proofs.DistinctValues.{values_differ_kept}
use Rattle.math_codec.proofs.ItemsSoFar.{vec_items}
use Rattle.std.proofs.lemmas.Result.{err_from_is_err_and}
use Rattle.math_codec.proofs.MapRefusals.{IfDuplicateKey-then, IfDuplicateValue-then}
use Rattle.math_codec.proofs.ordered.two_way.BiMap.try_from_iter.Goals as goal

pub invariant_of-result : goal.invariant_of-result
invariant_of-result g c =
    let made = c.in_ok-pairs.ensures in
    let all = vec_items made.0 made.1 c.loop-pair.taken.items made.3 made.2.0 (made.2.1 ∙ c.loop-pair.taken.ok.0) in
    let differ = subst (ValuesDiffer g.V.Ord.cmp) (c.deref.ensures.value ∙ sym all) c.in_ok-check_distinct.ensures.values in (
      values_differ_kept g.met.I.Ord.total g.met.V.Ord.total made.1 c.in_ok-pairs.pairs differ made.4,
      subst (λ vs. IsOrderByValue g.V.Ord.cmp vs c.in_ok-by_value.by_value.items) c.values.ensures c.in_ok-by_value.ensures,
    )

pub returns-clause-ok : goal.returns-clause-ok
returns-clause-ok g c =
    let made = c.in_ok-pairs.ensures in
    let all = vec_items made.0 made.1 c.loop-pair.taken.items made.3 made.2.0 (made.2.1 ∙ c.loop-pair.taken.ok.0) in
    let items = c.deref.ensures.value ∙ c.loop-pair.invariant.2 in (
      c.into_iter-pair-iterator.result,
      c.loop-pair.yielded,
      c.into_iter-pair-iterator.ensures.into_iter_gives,
      (c.next.new.self, (c.loop-pair.pair-iterator, c.loop-pair.yielded_by, c.in-None.ensures.steps)),
      (
        subst (KeysDiffer g.I.Ord.cmp) items c.in_ok-check_distinct.ensures.keys,
        subst (ValuesDiffer g.V.Ord.cmp) items c.in_ok-check_distinct.ensures.values,
        subst (λ xs. HasFirstOfEachKey g.I.Ord.cmp xs c.in_ok-pairs.pairs) (all ∙ c.loop-pair.invariant.2) made.4,
      ),
    )

pub returns-in_err-check_distinct-clause-repeated_key : goal.returns-in_err-check_distinct-clause-repeated_key
returns-in_err-check_distinct-clause-repeated_key g c =
    let Repeats = RepeatsKeyFirst g.I.Ord.cmp g.V.Ord.cmp in
    let p = err_from_is_err_and c.from_residual-in_err-check_distinct.result c.from_residual-in_err-check_distinct.ensures.1 in
    let start = c.into_iter-pair-iterator in
    let loop = c.loop-pair in
    let items = c.deref.ensures.value ∙ c.loop-pair.invariant.2 in
    rw (p.1, p.2) (IfDuplicateKey-then c.in_err-check_distinct.field-0.0 (Repeats c.deref.result.now) _
    (λ h. (start.result, loop.yielded, start.ensures.into_iter_gives, (c.next.new.self, (loop.pair-iterator, loop.yielded_by, c.in-None.ensures.steps)), subst Repeats items h))
    c.in_err-check_distinct.ensures.repeated_key)

pub returns-in_err-check_distinct-clause-repeated_value : goal.returns-in_err-check_distinct-clause-repeated_value
returns-in_err-check_distinct-clause-repeated_value g c =
    let Repeats = RepeatsValueFirst g.I.Ord.cmp g.V.Ord.cmp in
    let p = err_from_is_err_and c.from_residual-in_err-check_distinct.result c.from_residual-in_err-check_distinct.ensures.1 in
    let start = c.into_iter-pair-iterator in
    let loop = c.loop-pair in
    let items = c.deref.ensures.value ∙ c.loop-pair.invariant.2 in
    rw (p.1, p.2) (IfDuplicateValue-then c.in_err-check_distinct.field-0.0 (Repeats c.deref.result.now) _
    (λ h. (start.result, loop.yielded, start.ensures.into_iter_gives, (c.next.new.self, (loop.pair-iterator, loop.yielded_by, c.in-None.ensures.steps)), subst Repeats items h))
    c.in_err-check_distinct.ensures.repeated_value)
