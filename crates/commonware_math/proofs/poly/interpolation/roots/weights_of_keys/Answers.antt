use Rattle.std.proofs.lemmas.Grind.{common_steps}
use Rattle.std.proofs.Common.{◌≡◌, ◌∙◌, inl, inr, Some, rules, ap, sym, subst, arith}
use Rattle.std.specs.List.{AllZip}
use Rattle.std.specs.Map.{keys_of, values_of}
use Rattle.std.specs.Ordering.{nat_cmp}
use Rattle.math_codec.specs.OrderedMaps.{value_at}
use Rattle.math_transforms.proofs.PresentIndices.{parts-all}
use Rattle.commonware_math.specs.RootInterpolators.{weighted_pairs, weight_at}
use Rattle.commonware_math.proofs.KeyedRoots.{weighted_keys-next, weighted_values-next, pairs-all}
use Rattle.commonware_math.proofs.poly.interpolation.roots.weights_of_keys.Goals as goal

pub loop-key-preserved-in_ok-push-2 : goal.loop-key-preserved-in_ok-push-2
loop-key-preserved-in_ok-push-2 g c =
    let ws = c.args.weights.now in
    let ys = c.loop-key.yielded in
    let found : value_at nat_cmp c.in-Some.index ws ≡ Some c.in-Some-get.weight.now = sym c.get.ensures ∙ search rules in
    record {
      taken_keys = grind (arith, common_steps, c.loop-key.invariant.taken_keys, c.in-Some.ensures.steps);
      taken_indices = grind (arith, common_steps, c.loop-key.invariant.taken_indices, c.in-Some.ensures.steps);
      keys = weighted_keys-next ws ys c.loop-key.kept.items c.push-in-Some-get.new.self.items c.in-Some.key c.in-Some.index c.in-Some-get.weight.now found c.loop-key.invariant.keys
          c.in_ok-push-2.ensures.items;
      weights = weighted_values-next g.F.Object.same g.F.Additive.zero ws ys c.loop-key.values.items c.push.new.self.items c.in-Some.key c.in-Some.index c.in-Some-get.weight.now
          c.in_ok-clone.field-0 found
          c.in_ok-clone.ensures.ok c.loop-key.invariant.weights c.in_ok-push.ensures.items;
    }

pub returns-clause-keys : goal.returns-clause-keys
returns-clause-keys g c =
    c.loop-key.invariant.keys
    ∙ ap (λ ps. keys_of (weighted_pairs c.args.weights.now ps))
    (pairs-all c.args.keys.items c.args.indices.items c.loop-key.yielded
    (parts-all c.args.keys.items c.args.indices.items c.loop-key.yielded c.loop-key.key-iterator.a.rest.items c.loop-key.key-iterator.b.rest.items c.requires
    c.loop-key.invariant.taken_keys c.loop-key.invariant.taken_indices
    (elim c.in-None.ensures.steps [
      | inl a ↦ inl (omega (arith, a.1.0, c.loop-key.key-iterator.a.rest.ok))
      | inr b ↦ inr (omega (arith, b.1.0, c.loop-key.key-iterator.b.rest.ok))
    ])))

pub returns-clause-weights : goal.returns-clause-weights
returns-clause-weights g c =
    subst (λ ps. AllZip (λ v i. g.F.Object.same v (weight_at g.F.Additive.zero c.args.weights.now i)) c.loop-key.values.items (values_of (weighted_pairs c.args.weights.now ps)))
    (pairs-all c.args.keys.items c.args.indices.items c.loop-key.yielded
    (parts-all c.args.keys.items c.args.indices.items c.loop-key.yielded c.loop-key.key-iterator.a.rest.items c.loop-key.key-iterator.b.rest.items c.requires
    c.loop-key.invariant.taken_keys c.loop-key.invariant.taken_indices
    (elim c.in-None.ensures.steps [
      | inl a ↦ inl (omega (arith, a.1.0, c.loop-key.key-iterator.a.rest.ok))
      | inr b ↦ inr (omega (arith, b.1.0, c.loop-key.key-iterator.b.rest.ok))
    ])))
    c.loop-key.invariant.weights
