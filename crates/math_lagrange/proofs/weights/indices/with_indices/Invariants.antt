use Rattle.std.proofs.Common.{◌≡◌, ◌++◌}
use Rattle.std.specs.Map.{keys_of, values_of}
use Rattle.math_lagrange.proofs.weights.indices.with_indices.Given as goal

-- the pairs so far have the first indices and weights, and the others are left
abbrev pub invariant-loop-index : goal.invariant-loop-index
invariant-loop-index g l =
    record {
      indices : keys_of l.out.items ++ l.index-iterator.a.rest.items ≡ l.fn.indices.items;
      weights : values_of l.out.items ++ l.index-iterator.b.rest.items ≡ l.fn.weights.items;
    }
