use Rattle.std.proofs.Common.{rules, ◌≡◌, ◌<◌, ◌∙◌, inl, inr, refl, ap, [], length, arith}
use Rattle.std.proofs.lemmas.List.{get_or_read, length_push, nil_from_length}
use Rattle.commonware_math.proofs.FreeSums.{free-next, free-end, concrete-next, concrete-end}
use Rattle.commonware_math.proofs.synthetic.Synthetic.eval.Goals as goal

pub loop-index-init : goal.loop-index-init
loop-index-init g c =
    let rest : c.into_iter-index-iterator.result.rest.items ≡ c.args.self.0 = c.into_iter-index-iterator.ensures.into_iter_gives.0 ∙ ap (λ v. v.0) c.self.view_is in
    rw (c.new-points.ensures.items, c.new-weights.ensures.items, rest) record { count = refl; bound = c.requires; whole = g.met.G.Additive.group.identity _ }

pub offset_bounds-generators-index : goal.offset_bounds-generators-index
offset_bounds-generators-index g c =
    let below : c.in-Some.index < length c.args.generators.now = c.loop-index.invariant.bound c.in-Some.index (rw c.in-Some.ensures.steps.0 (inl refl)) in
    omega arith

pub bounds-generators-index : goal.bounds-generators-index
bounds-generators-index g c = c.loop-index.invariant.bound c.in-Some.index (rw c.in-Some.ensures.steps.0 (inl refl))

pub loop-index-preserved : goal.loop-index-preserved
loop-index-preserved g c =
    let G = g.met.G in
    let i = c.loop-index.invariant in
    let rest = c.in-Some.ensures.steps.0 in
    let below : c.in-Some.index < length c.args.generators.now = i.bound c.in-Some.index (rw rest (inl refl)) in
    let generator = get_or_read c.args.generators.now c.in-Some.index c.index-generators-index.result below c.index-generators-index.is g.G.Additive.zero in
    rw (c.in_ok-push.ensures.items, c.in_ok-push-2.ensures.items) record {
      count = omega (arith, length_push c.loop-index.points.items c.in_ok-clone.field-0, length_push c.loop-index.weights.items c.in-Some.weight, i.count);
      bound = λ k h. i.bound k (rw rest (inr h));
      whole = free-next G.Object.equality G.Additive.group G.Space.spans c.args.generators.now _ _ _ _ c.in-Some.index c.in-Some.weight c.in_ok-clone.field-0 _ rest below
          (rw (← generator) c.in_ok-clone.ensures.ok) i.count i.whole;
    }

pub loop-weight-init : goal.loop-weight-init
loop-weight-init g c =
    let G = g.met.G in
    let empty : c.loop-index.index-iterator.rest.items ≡ [] = nil_from_length _ (search (rules, c.in-None.ensures.steps)) in
    record {
      count = c.loop-index.invariant.count;
      whole = free-end G.Object.equality G.Additive.group G.Space.spans c.args.generators.now _ _ _ _ c.args.self empty c.loop-index.invariant.whole
          (rw c.into_iter-weight-iterator.ensures.into_iter_gives.0 (ap (λ v. v.1) c.self.view_is));
    }

pub loop-weight-preserved : goal.loop-weight-preserved
loop-weight-preserved g c =
    let G = g.met.G in
    let i = c.loop-weight.invariant in
    rw (c.in_ok-push-3.ensures.items, c.in_ok-push-4.ensures.items) record {
      count = omega (arith, length_push c.loop-weight.points.items c.in-Some-2.point, length_push c.loop-weight.weights.items c.in-Some-2.weight, i.count);
      whole = concrete-next G.Object.equality G.Additive.group G.Space.spans _ _ _ _ c.in-Some-2.weight c.in-Some-2.point _ c.in-Some-2.ensures.steps.0 i.count i.whole;
    }

pub returns : goal.returns
returns g c =
    let G = g.met.G in
    let empty : c.loop-weight.weight-iterator.rest.items ≡ [] = nil_from_length _ (search (rules, c.in-None-2.ensures.steps)) in
    G.Object.equality.transitive _ _ _ (rw (c.deref.ensures.value, c.deref-2.ensures.value) at c.in_ok-out.ensures.ok)
    (concrete-end G.Object.equality G.Additive.group G.Space.spans _ _ _ _ empty c.loop-weight.invariant.whole)
