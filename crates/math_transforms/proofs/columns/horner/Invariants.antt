use Rattle.std.proofs.Common.{map, reverse}
use Rattle.math_theory.specs.Values.{value_over}
use Rattle.math_transforms.proofs.columns.horner.Given as goal

-- the value of the coefficients taken so far, which are the last ones
abbrev pub invariant-loop-coefficient : goal.invariant-loop-coefficient
invariant-loop-coefficient g l =
    let product = g.F.Multiplicative.product in
    g.F.Object.same l.out (value_over g.F.Additive.zero g.F.Additive.sum product g.F.Ring.one product l.x (reverse (map (λ b. b.now) l.yielded)))
