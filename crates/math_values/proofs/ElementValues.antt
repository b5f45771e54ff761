-- Values of polynomials over the Goldilocks field.
use Rattle.std.proofs.Common.{List, ap}
use Rattle.math_theory.specs.Coefficients.{HaveSameCoefficients}
use Rattle.math_theory.specs.OverRing as OverRing
use Rattle.math_theory.proofs.polynomials.Coefficients.{value-HaveSameCoefficients}
use Rattle.math_fields.specs.declared.goldilocks.F.{F}
use Rattle.math_fields.specs.Elements.{number, residue, same}
use Rattle.math_fields.proofs.ElementNumbers.{same_number}
use Rattle.math_values.proofs.ElementRing.{elements}

-- polynomials with the same coefficients have the same value at each point
pub same_values : (x : F) (p q : List F) → HaveSameCoefficients same (residue 0) p q → same (OverRing.value elements x p) (OverRing.value elements x q)
same_values x p q h = ap number (value-HaveSameCoefficients elements x p q (λ i. same_number _ _ (h i)))
