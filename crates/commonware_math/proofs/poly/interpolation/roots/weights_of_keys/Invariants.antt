use Rattle.std.proofs.Common.{◌≡◌, ◌++◌}
use Rattle.std.specs.List.{AllZip}
use Rattle.std.specs.Map.{keys_of, values_of}
use Rattle.commonware_math.specs.RootInterpolators.{weighted_pairs, weight_at}
use Rattle.commonware_math.proofs.poly.interpolation.roots.weights_of_keys.Given as goal

-- what was taken and what is left; the keys and weights so far
abbrev pub invariant-loop-key : goal.invariant-loop-key
invariant-loop-key g l =
    record {
      taken_keys : keys_of l.yielded ++ l.key-iterator.a.rest.items ≡ l.fn.keys.items;
      taken_indices : values_of l.yielded ++ l.key-iterator.b.rest.items ≡ l.fn.indices.items;
      keys : l.kept.items ≡ keys_of (weighted_pairs l.weights l.yielded);
      weights : AllZip (λ v i. g.F.Object.same v (weight_at g.F.Additive.zero l.weights i)) l.values.items (values_of (weighted_pairs l.weights l.yielded));
    }
