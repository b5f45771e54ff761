use Rattle.std.proofs.Common.{◌≡◌, length, drop}
use Rattle.math_theory.specs.Sums.{weighted_sum}
use Rattle.math_poly.specs.Combinations.{combination_over}
use Rattle.math_poly.proofs.poly.Poly.lin_comb_eval.Given as goal

-- the sum by the weights so far, and what is left of the pairs, add up to the whole
abbrev pub invariant-loop-pair : goal.invariant-loop-pair
invariant-loop-pair g l =
    let zero = g.K.Additive.zero in
    let sum = g.K.Additive.sum in
    let scaling = g.K.Space.scaling in
    let combination = combination_over zero sum scaling g.R.Ring.one g.R.Multiplicative.product l.self in
    record {
      count : length l.weights.items ≡ length l.self;
      whole : g.K.Object.same (sum (weighted_sum zero sum scaling l.self l.weights.items) (combination (drop l.pair-index l.rest))) (combination l.fn.pairs);
    }
