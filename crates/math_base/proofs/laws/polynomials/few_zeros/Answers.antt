use Rattle.math_theory.proofs.polynomials.CarriedRoots.{few_roots-same}
use Rattle.math_base.proofs.laws.polynomials.few_zeros.Goals as goal

pub returns : goal.returns
returns g c = let F = g.met.F in few_roots-same F.Object.equality F.Additive.group F.Multiplicative.commutes F.Ring.ring F.Field.field
