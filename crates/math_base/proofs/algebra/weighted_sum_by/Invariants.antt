use Rattle.std.proofs.Common.{IfOk}
use Rattle.math_theory.specs.Sums.{weighted_sum}
use Rattle.math_base.proofs.algebra.weighted_sum_by.Given as goal

-- what the loop has, and what is left of both slices, add up to the whole
abbrev pub invariant-loop-s : goal.invariant-loop-s
invariant-loop-s g l =
    let sum = g.K.Additive.sum in
    let same = g.K.Object.same in
    (scaling : _) → ((a b : _) (x : _) → same a b → same (scaling a x) (scaling b x))
    → ((a : _) (x : _) (r : _) (b : _) → goal.S-post g l.scale a x r b → IfOk r (λ _. same b.now (scaling a.now x.now)))
    → same (sum l.out (weighted_sum g.K.Additive.zero sum scaling l.s-iterator.b.rest.now l.s-iterator.a.rest.now)) (weighted_sum g.K.Additive.zero sum scaling l.points l.scalars)
