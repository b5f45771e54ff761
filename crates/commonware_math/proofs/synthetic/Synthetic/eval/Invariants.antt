use Rattle.std.proofs.Common.{◌≡◌, ◌<◌, ℕ, length}
use Rattle.math_theory.specs.Sums.{weighted_sum}
use Rattle.commonware_math.specs.Synthetics.{HasTerm, concrete_sum, value_under, free_value}
use Rattle.commonware_math.proofs.synthetic.Synthetic.eval.Given as goal

-- the terms so far, and the free terms that are left, give the value of the free terms
abbrev pub invariant-loop-index : goal.invariant-loop-index
invariant-loop-index g l =
    let zero = g.G.Additive.zero in
    let sum = g.G.Additive.sum in
    let scaling = g.G.Space.scaling in
    let left = free_value g.F.Additive.zero g.F.Additive.sum zero sum scaling l.generators in
    record {
      count : length l.points.items ≡ length l.weights.items;
      bound : (i : ℕ) → HasTerm l.index-iterator.rest.items i → i < length l.generators;
      whole : g.G.Object.same (sum (weighted_sum zero sum scaling l.points.items l.weights.items) (left l.index-iterator.rest.items)) (left l.fn.self.0);
    }

-- the terms so far, and the points that are left, give the value of the combination
abbrev pub invariant-loop-weight : goal.invariant-loop-weight
invariant-loop-weight g l =
    let zero = g.G.Additive.zero in
    let sum = g.G.Additive.sum in
    let scaling = g.G.Space.scaling in
    record {
      count : length l.points.items ≡ length l.weights.items;
      whole : g.G.Object.same (sum (weighted_sum zero sum scaling l.points.items l.weights.items) (concrete_sum zero sum scaling l.weight-iterator.rest.items))
          (value_under g.F.Additive.zero g.F.Additive.sum zero sum scaling l.generators l.fn.self);
    }
