use Rattle.std.proofs.Common.{drop, length}
use Rattle.math_theory.specs.RootProducts.{root_product}
use Rattle.math_poly.proofs.weights.times_differences.Given as goal

-- what the loop has, times the differences that are left, is the whole
abbrev pub invariant-loop-left : goal.invariant-loop-left
invariant-loop-left g l =
    let product = g.R.Multiplicative.product in
    let differences = root_product g.R.Additive.sum g.R.Additive.negative product g.R.Ring.one l.r in
    g.R.Object.same (product l.out (differences l.left)) (product l.fn.start (differences l.roots))

abbrev pub decreases-loop-left : goal.decreases-loop-left
decreases-loop-left g l = length l.left

abbrev pub invariant-loop-x : goal.invariant-loop-x
invariant-loop-x g l =
    let product = g.R.Multiplicative.product in
    let differences = root_product g.R.Additive.sum g.R.Additive.negative product g.R.Ring.one l.r in
    g.R.Object.same (product l.out (differences (drop l.x-index l.x-items))) (product l.fn.start (differences l.roots))
