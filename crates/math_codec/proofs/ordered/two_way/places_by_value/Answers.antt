use Rattle.std.proofs.Common.{Bor, take, ap, sym, subst, ◌∙◌}
use Rattle.std.proofs.lemmas.List.{take_all}
use Rattle.math_codec.specs.OrderedMaps.{places_from, first_pair, KeysRise}
use Rattle.std.specs.Map.{values_of}
use Rattle.math_codec.proofs.FirstPairs.{same_firsts_push}
use Rattle.math_codec.proofs.ValuePlaces.{with_keys, with_keys-add_pair, values_of-with_keys, keys_rise-with_keys, places_taken}
use Rattle.math_codec.proofs.ordered.two_way.places_by_value.Goals as goal

pub loop-place-preserved : goal.loop-place-preserved
loop-place-preserved g c =
    let cmp = g.V.Ord.cmp in
    let now : Bor g.row.V.Denot → g.row.V.Denot = λ x. x.now in
    let vs = c.args.values.now in
    let i = c.loop-place.place in
    let v = c.index-values-place.result in
    let es = with_keys now c.loop-place.table.entries in
    let entries = ap (with_keys now) c.in_ok-add_new.ensures.entries ∙ with_keys-add_pair now cmp c.loop-place.table.entries _ i in
    let places = places_taken vs i v c.loop-place-test.true c.index-values-place.is in
    λ q. ap (first_pair cmp q) entries ∙ same_firsts_push g.met.V.Ord.total es (places_from 0 (take i vs)) v i c.loop-place.invariant q ∙ ap (first_pair cmp q) (sym places)

pub returns : goal.returns
returns g c =
    let cmp = g.V.Ord.cmp in
    let now : Bor g.row.V.Denot → g.row.V.Denot = λ x. x.now in
    let vs = c.args.values.now in
    let same = c.in_ok-by_value.ensures.pairs in
    let rise = subst (KeysRise (λ (x : Bor g.row.V.Denot) (y : Bor g.row.V.Denot). cmp x.now y.now)) same c.in_ok-by_value.ensures.rise in (
      with_keys now c.loop-place.table.entries,
      c.into_values.ensures ∙ ap values_of same ∙ sym (values_of-with_keys now c.loop-place.table.entries),
      (
        keys_rise-with_keys now cmp c.loop-place.table.entries rise,
        λ q. c.loop-place.invariant q
            ∙ ap (λ l. first_pair cmp q (places_from 0 l)) (take_all c.loop-place.place vs c.loop-place-test.false),
      ),
    )
