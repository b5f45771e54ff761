use Rattle.std.proofs.Common.{◌∙◌, ap, sym, rules, refl}
use Rattle.std.proofs.lemmas.List.{take_all}
use Rattle.std.specs.Map.{keys_of}
use Rattle.math_poly.proofs.PlaceByPlace.{AllZip-next}
use Rattle.commonware_math.proofs.WeightMaps.{keys-under, rising-keys, weights-under, points-under}
use Rattle.commonware_math.proofs.synthetic.Synthetic.with_weights.Goals as goal

pub loop-term-preserved : goal.loop-term-preserved
loop-term-preserved g c = record {
  count = search rules;
  each = rw c.in_ok-push.ensures.items
      (AllZip-next _ _ _ _ c.term-item.result _ (search rules) (search rules) c.loop-term.invariant.each
      (refl, record { shown = _; shows = refl; says = record { met = c.in_ok-f.ensures } }));
}

pub loop-term-2-preserved : goal.loop-term-2-preserved
loop-term-2-preserved g c = record {
  count = search rules;
  each = rw c.in_ok-push-2.ensures.items
      (AllZip-next _ _ _ _ c.term-item-in-loop-term-2.result _ (search rules) (search rules) c.loop-term-2.invariant.each
      (record { shown = _; shows = refl; says = record { met = c.in_ok-weight.ensures } }, c.in_ok-clone.ensures.ok));
}

pub invariant_of-result : goal.invariant_of-result
invariant_of-result g c =
    let all = take_all c.loop-term.term-index c.deref-term-items.result.now c.loop-term-test.false ∙ c.deref-term-items.ensures.value in
    rising-keys c.self.inside.free.items _ (sym (keys-under _ _ _ (rw all at c.loop-term.invariant.each))) c.self.invariant

pub returns-clause-rising : goal.returns-clause-rising
returns-clause-rising g c =
    let all = take_all c.loop-term.term-index c.deref-term-items.result.now c.loop-term-test.false ∙ c.deref-term-items.ensures.value in
    rising-keys c.self.inside.free.items _ (sym (keys-under _ _ _ (rw all at c.loop-term.invariant.each))) c.self.invariant

pub returns-clause-indices : goal.returns-clause-indices
returns-clause-indices g c =
    let all = take_all c.loop-term.term-index c.deref-term-items.result.now c.loop-term-test.false ∙ c.deref-term-items.ensures.value in
    keys-under _ _ _ (rw all at c.loop-term.invariant.each) ∙ ap (λ v. keys_of v.0) c.self.view_is

pub returns-clause-ok : goal.returns-clause-ok
returns-clause-ok g c on_weights on_points M answers =
    let all = take_all c.loop-term.term-index c.deref-term-items.result.now c.loop-term-test.false ∙ c.deref-term-items.ensures.value in
    let all_points = take_all c.loop-term-2.term-index c.deref-term-items-2.result.now c.loop-term-2-test.false ∙ c.deref-term-items-2.ensures.value in
    let S = g.met.G.Space.spans in
    rw (← c.self.view_is) record {
      weights = weights-under g.met.F.Object.equality g.met.F.Additive.group on_weights _ answers _ _ (rw all at c.loop-term.invariant.each);
      points = points-under g.met.G.Object.equality g.met.G.Additive.group S.respects_points S.respects_scalars M _ answers _ _ (rw all_points at c.loop-term-2.invariant.each);
    }
