use Rattle.math_theory.proofs.decoding.Decoding.{decoding-found}
use Rattle.math_theory.proofs.laws.decoding.decoding.Goals as goal

pub returns : goal.returns
returns g c = λ F. decoding-found F
