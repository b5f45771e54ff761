use Rattle.std.proofs.Common.{◌≡◌, ◌++◌}
use Rattle.std.specs.Map.{values_of}
use Rattle.row_interpolation.proofs.weights.weights_of_pairs.Given as goal

-- the weights so far, and those that are left
abbrev pub invariant-loop-pair : goal.invariant-loop-pair
invariant-loop-pair l = l.out.items ++ values_of l.pair-iterator.rest.items ≡ values_of l.fn.pairs.items
