use Rattle.math_theory.specs.Powers.{power}
use Rattle.math_transforms.proofs.transform.size_inverse.Given as goal

-- one, halved as often as the index says
abbrev pub invariant-loop-done : goal.invariant-loop-done
invariant-loop-done g l =
    let one = g.F.Ring.one in
    let product = g.F.Multiplicative.product in
    g.F.Object.same (product l.out (power one product (g.F.Additive.sum one one) l._done)) one
