use Rattle.std.proofs.Common.{arith}
use Rattle.std.proofs.lemmas.List.{get_or_past}
use Rattle.math_theory.proofs.decoding.Decoding.{degree-step}
use Rattle.math_theory.proofs.laws.decoding.degrees_by_division.Goals as goal

pub returns : goal.returns
returns g c = λ F a b s r r' r'' q v v' v'' l degree degree' h short factor before e.
    degree-step F a b s r r' r'' q v v' v'' l degree degree' h (λ i m. get_or_past q i F.zero (omega (arith, m, short))) factor
    (λ i m. get_or_past v i F.zero (omega (arith, m, before))) e
