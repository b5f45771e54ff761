use Rattle.std.proofs.Common.{[], ◌∷◌, refl}
use Rattle.math_theory.specs.Powers.{power}
use Rattle.math_theory.proofs.classes.RingUpToSame.{ring_same}
use Rattle.math_theory.proofs.polynomials.ValuesRespect.{power-respects}
use Rattle.math_theory.proofs.rings.Normal.{◌⊗◌, 𝟙, v0}
use Rattle.math_lagrange.proofs.weights.points.domain_points.Goals as goal

pub returns-clause-powers : goal.returns-clause-powers
returns-clause-powers g c i l =
    let F = g.met.F in
    let E = F.Object.equality in
    let P = F.Multiplicative.commutes in
    let one = g.F.Ring.one in
    E.transitive _ _ _ (c.in_ok-out.ensures.factors i (rw c.size_of.ensures l))
    (E.transitive _ _ _ (P.respects _ _ _ _ c.in_ok-one.ensures.ok (power-respects E P one c.in-Some.root (g.F.FieldNTT.root c.args.lg) (rw c.in-Some.is at c.in_ok-root.ensures.ok) i))
    (ring_same E F.Additive.group P F.Ring.ring (power one g.F.Multiplicative.product (g.F.FieldNTT.root c.args.lg) i ∷ []) (𝟙 ⊗ v0) v0 refl))
