use Rattle.math_theory.proofs.polynomials.Division.{division-exists, division-only}
use Rattle.math_theory.proofs.laws.decoding.division.Goals as goal

pub returns : goal.returns
returns g c = λ F p d n degree.
    let (q, r, h) = division-exists F n p d degree in
    (q, r, h, λ q' r' k. division-only F n p d q r q' r' degree h k)
