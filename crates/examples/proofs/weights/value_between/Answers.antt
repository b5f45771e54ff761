use Rattle.math_theory.specs.ModuleLaws.{ring_is_module}
use Rattle.math_poly.proofs.InterpolatedValues.{interpolated-value}
use Rattle.examples.proofs.weights.value_between.Goals as goal

pub returns : goal.returns
returns g c = λ p l h.
    let F = g.met.F in
    let M = ring_is_module F.Object.equality F.Additive.group F.Multiplicative.commutes F.Ring.ring in
    interpolated-value F.Object.equality F.Additive.group F.Multiplicative.commutes F.Ring.ring F.Object.equality F.Additive.group M c.in_ok-answer.answer c.args.values.now
    c.in_ok-weights.weights.items (rw c.deref.ensures.value at c.in_ok-answer.ensures.ok) c.args.x.now c.args.points.now p (c.in_ok-weights.ensures.weights c.requires.apart) l h
