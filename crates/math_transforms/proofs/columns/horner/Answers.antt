use Rattle.math_theory.specs.ModuleLaws.{ring_is_module}
use Rattle.math_theory.proofs.polynomials.Horner.{horner_step}
use Rattle.math_transforms.proofs.columns.horner.Goals as goal

pub loop-coefficient-preserved : goal.loop-coefficient-preserved
loop-coefficient-preserved g c =
    let F = g.met.F in
    let E = F.Object.equality in
    let G = F.Additive.group in
    horner_step E G (ring_is_module E G F.Multiplicative.commutes F.Ring.ring) c.loop-coefficient.yielded c.in-Some.coefficient _ _ _ _
    c.loop-coefficient.invariant c.in_ok-mul_assign.ensures.ok c.in_ok-add_assign.ensures.ok
