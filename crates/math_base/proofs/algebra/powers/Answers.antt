use Rattle.math_theory.specs.Powers.{power-zero}
use Rattle.math_base.proofs.GeometricRuns.{geometric}
use Rattle.math_base.proofs.algebra.powers.Goals as goal

pub returns : goal.returns
returns g c = λ items last rest run.
    let R = g.met.R in
    let E = R.Object.equality in
    let P = R.Multiplicative.commutes in
    geometric E P g.R.Ring.one _ (λ s. s.next_power) (λ s. s.base.now) c.args.shift c.args.base.now 0 c.new.result c.args.shift c.new.ensures.next_power c.new.ensures.base
    (rw (power-zero g.R.Ring.one g.R.Multiplicative.product c.args.base.now) (E.symmetric _ _ (E.transitive _ _ _ (P.commutative c.args.shift g.R.Ring.one) (R.Ring.ring.identity c.args.shift))))
    items last rest run
