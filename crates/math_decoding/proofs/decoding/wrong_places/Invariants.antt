use Rattle.std.proofs.Common.{get_or}
use Rattle.math_theory.specs.Values.{value}
use Rattle.math_decoding.proofs.WrongPlaces.{AreGathered}
use Rattle.math_decoding.proofs.decoding.wrong_places.Given as goal

-- the places below i at which the value of the polynomial is not the value given
abbrev pub invariant-loop-i : goal.invariant-loop-i
invariant-loop-i g l =
    let zero = g.F.Additive.zero in
    AreGathered (λ k. g.F.Object.same (value zero g.F.Additive.sum g.F.Multiplicative.product g.F.Ring.one (get_or l.points k zero) l.coefficients) (get_or l.values k zero)) l.i l.wrong.items
