use Rattle.std.proofs.Common.{◌≡◌, ◌∙◌, ◌<◌, [], ◌∷◌, length, take, sym, rules, arith}
use Rattle.math_theory.specs.Sums.{weighted_sum}
use Rattle.math_theory.specs.Coefficients.{coefficient, polynomial_sum, polynomial_multiple}
use Rattle.math_poly.specs.PolynomialCounts.{greatest_count}
use Rattle.math_base.proofs.PlaceByPlace.{each_place_next}
use Rattle.math_poly.proofs.PolynomialEquality.{same_by_count}
use Rattle.math_poly.proofs.GreatestCount.{greatest_count_positive, take_shorter}
use Rattle.math_poly.proofs.WeightedPolynomials.{weighted_sum-take, length-weighted_sum, coefficient_of_weighted_sum}
use Rattle.math_poly.proofs.poly.algebra.PolySpace.msm.Goals as goal

pub loop-i-preserved : goal.loop-i-preserved
loop-i-preserved g c =
    let K = g.K in
    let E = g.met.K.Object.equality in
    let sum = weighted_sum (K.Additive.zero ∷ []) (polynomial_sum K.Additive.sum) (polynomial_multiple K.Space.scaling) (take c.min.result c.args.points.now) c.args.scalars.now in
    let here : K.Object.same c.in_ok-msm.field-0 (coefficient K.Additive.zero sum c.loop-i.i) =
    E.transitive _ _ _ c.in_ok-msm.ensures.ok (rw c.deref.ensures.value (coefficient_of_weighted_sum E g.met.K.Additive.group g.met.K.Space.spans _ _ _ _ c.in_ok-column.ensures)) in
    record {
      count = search rules;
      coefficients = rw c.in_ok-push.ensures.items
          (each_place_next K.Additive.zero (λ k a. K.Object.same a (coefficient K.Additive.zero sum k)) _ _ _ c.loop-i.invariant.count c.loop-i.invariant.coefficients here);
    }

pub invariant_of-result : goal.invariant_of-result
invariant_of-result g c =
    let positive : 0 < c.greatest_count-count.result = rw c.greatest_count-count.ensures.greatest (greatest_count_positive (take c.min.result c.args.points.now)) in
    (omega arith, omega arith)

pub returns-clause-ok : goal.returns-clause-ok
returns-clause-ok g c =
    let zero = g.K.Additive.zero in
    let sum = g.K.Additive.sum in
    let scaling = g.K.Space.scaling in
    let points = c.args.points.now in
    let scalars = c.args.scalars.now in
    let weighted : take c.min.result points ≡ take (length scalars) points = rw c.min.ensures (take_shorter points scalars) in
    let whole : weighted_sum (zero ∷ []) (polynomial_sum sum) (polynomial_multiple scaling) (take c.min.result points) scalars
    ≡ weighted_sum (zero ∷ []) (polynomial_sum sum) (polynomial_multiple scaling) points scalars =
    rw weighted (weighted_sum-take (zero ∷ []) (polynomial_sum sum) (polynomial_multiple scaling) points scalars) in
    let ended : c.loop-i.i ≡ greatest_count (take (length scalars) points) = rw (← weighted, ← c.greatest_count-count.ensures.greatest) (omega arith) in
    same_by_count zero g.met.K.Object.equality _ _ c.loop-i.i c.loop-i.invariant.count (length-weighted_sum zero sum scaling points scalars ∙ sym ended) (rw whole at c.loop-i.invariant.coefficients)
