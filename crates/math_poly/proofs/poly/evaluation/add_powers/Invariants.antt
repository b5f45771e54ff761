use Rattle.std.proofs.Common.{◌-◌, length}
use Rattle.math_poly.proofs.GeometricItems.{gives_power}
use Rattle.math_poly.proofs.AddedTerms.{TermsAdded}
use Rattle.math_poly.proofs.poly.evaluation.add_powers.Given as goal

abbrev pub decreases-loop-total : goal.decreases-loop-total
decreases-loop-total g l = length l.initial.sums - l.total-index

abbrev pub invariant-loop-total : goal.invariant-loop-total
invariant-loop-total g l =
    let same = g.R.Object.same in
    let product = g.R.Multiplicative.product in
    TermsAdded same g.R.Additive.sum product g.R.Ring.one l.fn.shift l.base (gives_power same product) l.initial.terms l.terms l.initial.sums l.sums l.total-index
