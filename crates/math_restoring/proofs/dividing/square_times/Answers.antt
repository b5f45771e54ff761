use Rattle.std.proofs.Common.{◌∙◌, sym, ap}
use Rattle.math_theory.proofs.rings.PowerLaws.{power-one}
use Rattle.math_fields.specs.Elements.{number}
use Rattle.math_values.proofs.ElementRing.{elements}
use Rattle.math_restoring.proofs.RaisedElements.{raised-squared}
use Rattle.math_restoring.proofs.dividing.square_times.Goals as goal

pub loop-done-init : goal.loop-done-init
loop-done-init c = ap number (sym (power-one elements c.args.x))

pub loop-done-preserved : goal.loop-done-preserved
loop-done-preserved c = c.mul-out.ensures ∙ raised-squared c.args.x c.loop-done.out c.loop-done._done c.loop-done.invariant
