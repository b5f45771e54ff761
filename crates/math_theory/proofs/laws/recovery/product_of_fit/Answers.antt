use Rattle.std.proofs.Common.{length, refl, arith}
use Rattle.std.proofs.lemmas.List.Sums.{count_by-le-length}
use Rattle.math_theory.proofs.polynomials.Coefficients.{length-product-le}
use Rattle.math_theory.proofs.recovery.Recovery.{AgreesAtFilled-from_Fits, product-values}
use Rattle.math_theory.proofs.laws.recovery.product_of_fit.Goals as goal

pub returns-clause-short : goal.returns-clause-short
returns-clause-short g c = λ F filled f v l m.
    length-product-le F.sum F.zero F.product f v (length filled) (omega (arith, l, count_by-le-length (λ b. b) filled)) (omega (arith, l, m))

pub returns-clause-values : goal.returns-clause-values
returns-clause-values g c = λ F w cells filled f v e h.
    product-values F w (length cells) cells filled refl e f v (AgreesAtFilled-from_Fits F w (length cells) cells filled refl e f h)
