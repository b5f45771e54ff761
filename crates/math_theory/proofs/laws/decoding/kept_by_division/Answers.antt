use Rattle.math_theory.proofs.decoding.Decoding.{IsKept-step}
use Rattle.math_theory.proofs.laws.decoding.kept_by_division.Goals as goal

pub returns : goal.returns
returns g c = λ F. IsKept-step F.ring
